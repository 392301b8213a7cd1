-- A field that is read is the field that was written, and what was written is read again.
use Rattle.std.proofs.Common.{◌≡◌, ℕ, zero, suc, ◌+◌, ◌^◌, ◌<◌, ◌≤◌, Bool, true, false, cond, ltb, List, [], ◌∷◌, ◌++◌, length, take, drop, Option, Some, None, refl, sym, ap, subst, ◌∙◌, append_assoc, arith, inl, inr, ◌*◌}
use Rattle.std.specs.List.{flat_map}
use Rattle.std.proofs.lemmas.Bool.{cases_lt, ltb-false, le-ltb}
use Rattle.std.proofs.lemmas.List.{take_at, drop_at, take-append-drop, length-append, length-take, get_or-drop, get_or-take, get_or_past}
use Rattle.std.proofs.lemmas.Option.{same_Some}
use Rattle.lab_base.specs.Lists.{Has}
use Rattle.lab_base.specs.declared.ids.VlanId.{VlanId}
use Rattle.journal_rec.specs.Payloads.{le, number, name_bytes, text_bytes, tag_bytes, tags_bytes, AreTags}
use Rattle.journal_rec.specs.Reading.{◌>>=◌, byte_at, number_at, part_at, field_at, text_at, each_at, tags_at}
use Rattle.journal_rec.proofs.Numbers.{IsBytes, number_le, length_le, le_number, number_below}

pub IsBytes-drop : (n : ℕ) (bytes : List ℕ) → IsBytes bytes → IsBytes (drop n bytes)
IsBytes-drop n bytes h i = rw get_or-drop (h (n + i))

pub IsBytes-take : (n : ℕ) (bytes : List ℕ) → IsBytes bytes → IsBytes (take n bytes)
IsBytes-take n bytes h i =
    elim (cases_lt i n) [
      | inl lt ↦ rw (get_or-take n bytes i 0 lt) (h i)
      | inr le ↦ rw (get_or_past (take n bytes) i 0 (omega (arith, length-take n bytes))) (omega arith)
    ]

-- the value of a step that did not fail
pub bind_some : {A B : Type 0} (r : Option A) (f : A → Option B) (y : B) → (r >>= f) ≡ Some y → (x : A) × (r ≡ Some x) × (f x ≡ Some y)
bind_some (Some x) f y e = (x, refl, e)
bind_some None f y e = absurd cc

-- a test that did not fail
pub guard_not : {A : Type 0} (b : Bool) (x y : A) → cond b None (Some x) ≡ Some y → (b ≡ false) × (x ≡ y)
guard_not true x y e = absurd cc
guard_not false x y e = (refl, cc)

pub guard_so : {A : Type 0} (b : Bool) (x y : A) → cond b (Some x) None ≡ Some y → (b ≡ true) × (x ≡ y)
guard_so true x y e = (refl, cc)
guard_so false x y e = absurd cc

-- what a reader took from the front
pub record Takes (bytes front rest : List ℕ) : Type 0 where
  pub parts : bytes ≡ front ++ rest
  pub fits : IsBytes rest

pub Takes-then : (a x b y c : List ℕ) → Takes a x b → Takes b y c → Takes a (x ++ y) c
Takes-then a x b y c p q = record { parts = p.parts ∙ ap (λ (t : List ℕ). x ++ t) q.parts ∙ sym (append_assoc x y c); fits = q.fits }

-- ---- a byte, a number, a part
pub byte_takes : (bytes : List ℕ) (n : ℕ) (rest : List ℕ) → IsBytes bytes → byte_at bytes ≡ Some (n, rest) → Takes bytes (n ∷ []) rest
byte_takes [] n rest fits e = absurd cc
byte_takes (byte ∷ bytes) n rest fits e =
    subst (λ (p : ℕ × List ℕ). Takes (byte ∷ bytes) (p.0 ∷ []) p.1) (same_Some (byte, bytes) (n, rest) e) (record { parts = refl; fits = λ i. fits (suc i) })

pub number_takes : (k : ℕ) (bytes : List ℕ) (n : ℕ) (rest : List ℕ) → IsBytes bytes → number_at k bytes ≡ Some (n, rest) → Takes bytes (le k n) rest × (n < 256 ^ k)
number_takes k bytes n rest fits e =
    let g = guard_not (ltb (length bytes) k) (number (take k bytes), drop k bytes) (n, rest) e in
    let long : k ≤ length bytes = ltb-false _ _ g.0 in
    let len : length (take k bytes) ≡ k = omega (arith, length-take k bytes) in
    let front = IsBytes-take k bytes fits in
    let back : le k (number (take k bytes)) ≡ take k bytes = subst (λ j. le j (number (take k bytes)) ≡ take k bytes) len (le_number (take k bytes) front) in
    let below : number (take k bytes) < 256 ^ k = subst (λ j. number (take k bytes) < 256 ^ j) len (number_below (take k bytes) front) in
    let parts : bytes ≡ le k (number (take k bytes)) ++ drop k bytes = sym (take-append-drop k bytes) ∙ ap (λ (l : List ℕ). l ++ drop k bytes) (sym back) in
    subst (λ (p : ℕ × List ℕ). Takes bytes (le k p.0) p.1 × (p.0 < 256 ^ k)) g.1 (record { parts = parts; fits = IsBytes-drop k bytes fits }, below)

pub number_again : (k n : ℕ) (rest : List ℕ) → n < 256 ^ k → number_at k (le k n ++ rest) ≡ Some (n, rest)
number_again k n rest lt =
    let len = length_le k n in
    let long : ltb (length (le k n ++ rest)) k ≡ false = le-ltb _ _ (omega (arith, length-append (le k n) rest)) in
    rw (long, take_at (le k n) rest k len, drop_at (le k n) rest k len, number_le k n lt) refl

pub part_takes : (k : ℕ) (bytes part rest : List ℕ) → IsBytes bytes → part_at k bytes ≡ Some (part, rest) → Takes bytes part rest × (length part ≡ k)
part_takes k bytes part rest fits e =
    let g = guard_not (ltb (length bytes) k) (take k bytes, drop k bytes) (part, rest) e in
    let long : k ≤ length bytes = ltb-false _ _ g.0 in
    subst (λ (p : List ℕ × List ℕ). Takes bytes p.0 p.1 × (length p.0 ≡ k)) g.1
    (record { parts = sym (take-append-drop k bytes); fits = IsBytes-drop k bytes fits }, omega (arith, length-take k bytes))

pub part_again : (part rest : List ℕ) → part_at (length part) (part ++ rest) ≡ Some (part, rest)
part_again part rest =
    let long : ltb (length (part ++ rest)) (length part) ≡ false = le-ltb _ _ (omega (arith, length-append part rest)) in
    rw (long, take_at part rest (length part) refl, drop_at part rest (length part) refl) refl

-- ---- names, texts and tags
pub field_takes : (bytes name rest : List ℕ) → IsBytes bytes → field_at bytes ≡ Some (name, rest) → Takes bytes (name_bytes name) rest
unfolding field_at
field_takes bytes name rest fits e =
    let b = bind_some (byte_at bytes) (λ n. part_at n.0 n.1) (name, rest) e in
    let first = byte_takes bytes b.0.0 b.0.1 fits b.1 in
    let part = part_takes b.0.0 b.0.1 name rest first.fits b.2 in
    subst (λ k. Takes bytes (k ∷ name) rest) (sym part.1) (Takes-then bytes (b.0.0 ∷ []) b.0.1 name rest first part.0)

pub field_again : (name rest : List ℕ) → field_at (name_bytes name ++ rest) ≡ Some (name, rest)
unfolding field_at
field_again name rest = part_again name rest

pub text_takes : (bytes text rest : List ℕ) → IsBytes bytes → text_at bytes ≡ Some (text, rest) → Takes bytes (text_bytes text) rest
unfolding text_at
text_takes bytes text rest fits e =
    let b = bind_some (number_at 4 bytes) (λ n. part_at n.0 n.1) (text, rest) e in
    let first = number_takes 4 bytes b.0.0 b.0.1 fits b.1 in
    let part = part_takes b.0.0 b.0.1 text rest first.0.fits b.2 in
    subst (λ k. Takes bytes (le 4 k ++ text) rest) (sym part.1) (Takes-then bytes (le 4 b.0.0) b.0.1 text rest first.0 part.0)

pub text_again : (text rest : List ℕ) → length text < 2 ^ 32 → text_at (text_bytes text ++ rest) ≡ Some (text, rest)
unfolding text_at
text_again text rest lt =
    ap (λ (read : Option (ℕ × List ℕ)). read >>= λ n. part_at n.0 n.1) (number_again 4 (length text) (text ++ rest) lt) ∙ part_again text rest

pub each_takes : (count : ℕ) (bytes : List ℕ) (tags : List VlanId) (rest : List ℕ) → IsBytes bytes → each_at count bytes ≡ Some (tags, rest)
    → Takes bytes (flat_map tag_bytes tags) rest × (length tags ≡ count) × ((tag : VlanId) → Has tags tag → tag.0 < 2 ^ 16)
unfolding each_at
each_takes zero bytes tags rest fits e =
    subst (λ (p : List VlanId × List ℕ). Takes bytes (flat_map tag_bytes p.0) p.1 × (length p.0 ≡ 0) × ((tag : VlanId) → Has p.0 tag → tag.0 < 2 ^ 16)) (same_Some ([], bytes) (tags, rest) e)
    (record { parts = refl; fits = fits }, refl, λ tag h. absurd h)
each_takes (suc count) bytes tags rest fits e =
    let b = bind_some (number_at 2 bytes) (λ first. each_at count first.1 >>= λ others. Some (record { 0 = first.0 } ∷ others.0, others.1)) (tags, rest) e in
    let d = bind_some (each_at count b.0.1) (λ others. Some (record { 0 = b.0.0 } ∷ others.0, others.1)) (tags, rest) b.2 in
    let first = number_takes 2 bytes b.0.0 b.0.1 fits b.1 in
    let more = each_takes count b.0.1 d.0.0 d.0.1 first.0.fits d.1 in
    let tag : VlanId = record { 0 = b.0.0 } in
    subst (λ (p : List VlanId × List ℕ). Takes bytes (flat_map tag_bytes p.0) p.1 × (length p.0 ≡ suc count) × ((tag : VlanId) → Has p.0 tag → tag.0 < 2 ^ 16)) (same_Some (tag ∷ d.0.0, d.0.1) (tags, rest) d.2)
    (Takes-then bytes (le 2 b.0.0) b.0.1 (flat_map tag_bytes d.0.0) d.0.1 first.0 more.0, ap suc more.1, here tag d.0.0 first.1 more.2)
  where
    here : (first : VlanId) (others : List VlanId) → first.0 < 2 ^ 16 → ((tag : VlanId) → Has others tag → tag.0 < 2 ^ 16) → (tag : VlanId) → Has (first ∷ others) tag → tag.0 < 2 ^ 16
    here first others small more tag (inl e) = subst (λ (t : VlanId). t.0 < 2 ^ 16) e small
    here first others small more tag (inr h) = more tag h

pub each_again : (tags : List VlanId) (rest : List ℕ) → ((tag : VlanId) → Has tags tag → tag.0 < 2 ^ 16) → each_at (length tags) (flat_map tag_bytes tags ++ rest) ≡ Some (tags, rest)
unfolding each_at
each_again [] rest h = refl
each_again (tag ∷ tags) rest h =
    let bytes = flat_map tag_bytes tags ++ rest in
    ap (λ (read : Option (ℕ × List ℕ)). read >>= λ first. each_at (length tags) first.1 >>= λ others. Some (record { 0 = first.0 } ∷ others.0, others.1)) (number_again 2 tag.0 bytes (h tag (inl refl)))
    ∙ ap (λ (read : Option (List VlanId × List ℕ)). read >>= λ others. Some (tag ∷ others.0, others.1)) (each_again tags rest (λ t g. h t (inr g)))

pub tags_takes : (bytes : List ℕ) (tags : List VlanId) (rest : List ℕ) → IsBytes bytes → tags_at bytes ≡ Some (tags, rest) → Takes bytes (tags_bytes tags) rest × AreTags tags
unfolding tags_at
tags_takes bytes tags rest fits e =
    let b = bind_some (number_at 2 bytes) (λ n. each_at n.0 n.1) (tags, rest) e in
    let first = number_takes 2 bytes b.0.0 b.0.1 fits b.1 in
    let each = each_takes b.0.0 b.0.1 tags rest first.0.fits b.2 in (
      subst (λ k. Takes bytes (le 2 k ++ flat_map tag_bytes tags) rest) (sym each.1) (Takes-then bytes (le 2 b.0.0) b.0.1 (flat_map tag_bytes tags) rest first.0 each.0),
      record { count = omega (arith, each.1, first.1); each = each.2 },
    )

pub tags_again : (tags : List VlanId) (rest : List ℕ) → AreTags tags → tags_at (tags_bytes tags ++ rest) ≡ Some (tags, rest)
unfolding tags_at
tags_again tags rest are =
    ap (λ (read : Option (ℕ × List ℕ)). read >>= λ n. each_at n.0 n.1) (number_again 2 (length tags) (flat_map tag_bytes tags ++ rest) are.count) ∙ each_again tags rest are.each

pub tags_size : (tags : List VlanId) → length (flat_map tag_bytes tags) ≡ 2 * length tags
tags_size [] = refl
tags_size (tag ∷ tags) = omega (arith, length-append (tag_bytes tag) (flat_map tag_bytes tags), tags_size tags)
