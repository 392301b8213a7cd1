-- Tags that are read or written one after another.
use Rattle.std.proofs.Common.{◌≡◌, ◌⊎◌, ℕ, suc, ◌-◌, ◌+◌, ◌≤◌, ◌<◌, ◌^◌, List, length, take, get_or, inl, inr, subst, [], ◌∷◌, ◌++◌, Option, Some, None, refl, sym, ap, ◌∙◌, append_assoc, arith}
use Rattle.std.specs.List.{flat_map}
use Rattle.std.proofs.lemmas.List.{append-nil, take_more}
use Rattle.std.proofs.lemmas.Grind.{flat_map-append}
use Rattle.lab_base.specs.Lists.{Has}
use Rattle.lab_base.proofs.Members.{Has-append}
use Rattle.journal_rec.specs.Payloads.{le, tag_bytes}
use Rattle.lab_base.specs.declared.ids.VlanId.{VlanId}
use Rattle.journal_rec.specs.declared.fault.RecFault.{RecFault}
use Rattle.journal_rec.specs.declared.fault.RecFault.TheVariants as faults
use Rattle.journal_rec.specs.Reading.{◌>>=◌, number_at, each_at, Fails}

-- what was read before, and what is still read
abbrev pub with_front : List VlanId → Option (List VlanId × List ℕ) → Option (List VlanId × List ℕ)
with_front front read = read >>= λ x. Some (front ++ x.0, x.1)

regroup : (front : List VlanId) (tag : VlanId) (read : Option (List VlanId × List ℕ)) → with_front front (read >>= λ x. Some (tag ∷ x.0, x.1)) ≡ with_front (front ++ tag ∷ []) read
regroup front tag (Some x) = ap (λ (tags : List VlanId). Some (tags, x.1)) (simp append_assoc)
regroup front tag None = refl

abbrev tag_of : ℕ → VlanId
tag_of n = record { 0 = n }

pub goes_on : (front : List VlanId) (count i : ℕ) (bytes : List ℕ) (n : ℕ) (after : List ℕ) (total : Option (List VlanId × List ℕ)) → i < count → number_at 2 bytes ≡ Some (n, after)
    → with_front front (each_at (count - i) bytes) ≡ total → with_front (front ++ tag_of n ∷ []) (each_at (count - (i + 1)) after) ≡ total
unfolding each_at
goes_on front count i bytes n after total lt h so_far =
    let k : count - i ≡ suc (count - (i + 1)) = omega arith in
    let one : with_front front (each_at (count - i) bytes) ≡ with_front (front ++ tag_of n ∷ []) (each_at (count - (i + 1)) after) = rw (k, h) (regroup front (tag_of n) (each_at (count - (i + 1)) after)) in
    sym one ∙ so_far

pub ends : (fault : RecFault) (front : List VlanId) (count i : ℕ) (bytes : List ℕ) (total : Option (List VlanId × List ℕ)) → i < count → Fails fault (number_at 2 bytes)
    → with_front front (each_at (count - i) bytes) ≡ total → Fails fault total
unfolding each_at
ends faults.Memory front count i bytes total lt h so_far = tt
ends faults.Bad front count i bytes total lt h so_far =
    let k : count - i ≡ suc (count - (i + 1)) = omega arith in
    let one : with_front front (each_at (count - i) bytes) ≡ None = rw (k, h) refl in
    sym so_far ∙ one

pub is_done : (front : List VlanId) (count i : ℕ) (bytes : List ℕ) (total : Option (List VlanId × List ℕ)) → count ≤ i → with_front front (each_at (count - i) bytes) ≡ total → total ≡ Some (front, bytes)
unfolding each_at
is_done front count i bytes total le so_far =
    let k : count - i ≡ 0 = omega arith in
    let one : with_front front (each_at (count - i) bytes) ≡ Some (front, bytes) = rw k (ap (λ (tags : List VlanId). Some (tags, bytes)) (append-nil front)) in
    sym so_far ∙ one

-- one tag more is written
pub put_more : (tags : List VlanId) (i : ℕ) (tag : VlanId) (front mid out : List ℕ) → i < length tags → get_or tags i (tag_of 0) ≡ tag → mid ≡ front ++ flat_map tag_bytes (take i tags) → out ≡ mid ++ le 2 tag.0
    → out ≡ front ++ flat_map tag_bytes (take (i + 1) tags)
put_more tags i tag front mid out lt here was is =
    let one : take (i + 1) tags ≡ take i tags ++ tag ∷ [] = take_more tags i (tag_of 0) lt ∙ ap (λ (t : VlanId). take i tags ++ t ∷ []) here in
    is ∙ ap (λ (l : List ℕ). l ++ le 2 tag.0) was ∙ append_assoc front (flat_map tag_bytes (take i tags)) (le 2 tag.0)
    ∙ ap (λ (l : List ℕ). front ++ l) (sym (ap (flat_map tag_bytes) one ∙ flat_map-append tag_bytes (take i tags) (tag ∷ [])))

-- so many elements, and one more
has_more : (tags : List VlanId) (i : ℕ) (tag x : VlanId) → i < length tags → get_or tags i (tag_of 0) ≡ tag → Has (take (i + 1) tags) x → Has (take i tags) x ⊎ (tag ≡ x)
has_more tags i tag x lt here h =
    let one : take (i + 1) tags ≡ take i tags ++ tag ∷ [] = take_more tags i (tag_of 0) lt ∙ ap (λ (t : VlanId). take i tags ++ t ∷ []) here in
    last (Has-append (take i tags) (tag ∷ []) x (subst (λ (l : List VlanId). Has l x) one h))
  where
    last : Has (take i tags) x ⊎ Has (tag ∷ []) x → Has (take i tags) x ⊎ (tag ≡ x)
    last (inl h) = inl h
    last (inr (inl e)) = inr e
    last (inr (inr h)) = absurd h

pub more_fit : (tags : List VlanId) (i : ℕ) (tag : VlanId) → i < length tags → get_or tags i (tag_of 0) ≡ tag → tag.0 < 2 ^ 16 → ((x : VlanId) → Has (take i tags) x → x.0 < 2 ^ 16)
    → (x : VlanId) → Has (take (i + 1) tags) x → x.0 < 2 ^ 16
more_fit tags i tag lt here small so_far x h = which (has_more tags i tag x lt here h)
  where
    which : Has (take i tags) x ⊎ (tag ≡ x) → x.0 < 2 ^ 16
    which (inl h) = so_far x h
    which (inr e) = subst (λ (t : VlanId). t.0 < 2 ^ 16) e small
