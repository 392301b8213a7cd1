-- The VLAN ids that are taken are free.
use Rattle.std.proofs.Common.{◌≡◌, ◌≤◌, ◌<◌, ◌+◌, ◌^◌, ◌==◌, ◌||◌, ◌&&◌, inl, inr, ℕ, zero, suc, Bool, true, false, not, cond, nat_le, List, [], ◌∷◌, length, map, take, Ok, refl, ap, ◌∙◌, arith}
use Rattle.std.specs.List.{filter, flat_map, list_all, list_any, range_with_len}
use Rattle.std.proofs.lemmas.Bool.{cases_Bool, le-leb, leb-true, ne_eqb, eq-eqb, and_parts}
use Rattle.std.proofs.lemmas.List.{length-map, length-take-le}
use Rattle.lab_base.specs.Lists.{Has, AllDiffer}
use Rattle.lab_base.specs.declared.ids.VlanId.{VlanId}
use Rattle.lab_base.proofs.Members.{all_has}
use Rattle.phys_lab.specs.Labs.{Lab}
use Rattle.phys_lab.specs.Kept.{IsLab}
use Rattle.virt_topo.specs.declared.experiment.Experiment.{Experiment}
use Rattle.virt_topo.specs.declared.wiring.Wiring.{Wiring}
use Rattle.lab_model.specs.Beside.{all_differ, are_free_tags}
use Rattle.lab_model.specs.Claims.{claimed_tags}
use Rattle.claims.specs.Answered.{AreTaken, are_free_ids}
use Rattle.claims.specs.Experiments.{ClaimsOf}
use Rattle.claims.specs.Held.{Held, free_ids, has_id, size_of}
use Rattle.claims.proofs.Empty.{in_order}
use Rattle.claims.proofs.FreeIds.{free_tags}

-- ---- the first ones of a range that pass a test
abbrev passing : (ℕ → Bool) → ℕ → ℕ → ℕ → List ℕ
passing p b n k = take k (filter p (range_with_len b n))

-- none of them is a number below the range
none_below : (p : ℕ → Bool) (a b n k : ℕ) → a < b → list_any (λ y. y == a) (passing p b n k) ≡ false
none_below p a b zero zero h = refl
none_below p a b zero (suc k) h = refl
none_below p a b (suc n) k h =
    let rest = filter p (range_with_len (b + 1) n) in
    let more : (j : ℕ) → list_any (λ y. y == a) (passing p (b + 1) n j) ≡ false = λ j. none_below p a (b + 1) n j (omega (arith, h)) in
    elim (cases_Bool (p b)) [
      | inl passes ↦ ap (λ t. list_any (λ y. y == a) (take k (cond t (b ∷ rest) rest))) passes ∙ first more k
      | inr fails ↦ ap (λ t. list_any (λ y. y == a) (take k (cond t (b ∷ rest) rest))) fails ∙ more k
    ]
  where
    first : ((j : ℕ) → list_any (λ y. y == a) (passing p (b + 1) n j) ≡ false) → (j : ℕ) → list_any (λ y. y == a) (take j (b ∷ filter p (range_with_len (b + 1) n))) ≡ false
    first more zero = refl
    first more (suc j) = λ i. ne_eqb b a (λ e. omega (arith, h, e)) i || more j i

-- no two are one
differ : (p : ℕ → Bool) (b n k : ℕ) → all_differ (passing p b n k) ≡ true
differ p b zero zero = refl
differ p b zero (suc k) = refl
differ p b (suc n) k =
    let rest = filter p (range_with_len (b + 1) n) in
    let more : (j : ℕ) → all_differ (passing p (b + 1) n j) ≡ true = λ j. differ p (b + 1) n j in
    elim (cases_Bool (p b)) [
      | inl passes ↦ ap (λ t. all_differ (take k (cond t (b ∷ rest) rest))) passes ∙ first more k
      | inr fails ↦ ap (λ t. all_differ (take k (cond t (b ∷ rest) rest))) fails ∙ more k
    ]
  where
    first : ((j : ℕ) → all_differ (passing p (b + 1) n j) ≡ true) → (j : ℕ) → all_differ (take j (b ∷ filter p (range_with_len (b + 1) n))) ≡ true
    first more zero = refl
    first more (suc j) = λ i. not (none_below p b (b + 1) n j (omega arith) i) && more j i

-- each passes what follows from the range and the test
each_passes : (p q : ℕ → Bool) (b n k : ℕ) → ((x : ℕ) → b ≤ x → x < b + n → p x ≡ true → q x ≡ true) → list_all q (passing p b n k) ≡ true
each_passes p q b zero zero h = refl
each_passes p q b zero (suc k) h = refl
each_passes p q b (suc n) k h =
    let rest = filter p (range_with_len (b + 1) n) in
    let more : (j : ℕ) → list_all q (passing p (b + 1) n j) ≡ true = λ j. each_passes p q (b + 1) n j (λ x low high. h x (omega (arith, low)) (omega (arith, high))) in
    elim (cases_Bool (p b)) [
      | inl passes ↦ ap (λ t. list_all q (take k (cond t (b ∷ rest) rest))) passes ∙ first more passes k
      | inr fails ↦ ap (λ t. list_all q (take k (cond t (b ∷ rest) rest))) fails ∙ more k
    ]
  where
    first : ((j : ℕ) → list_all q (passing p (b + 1) n j) ≡ true) → p b ≡ true → (j : ℕ) → list_all q (take j (b ∷ filter p (range_with_len (b + 1) n))) ≡ true
    first more passes zero = refl
    first more passes (suc j) = λ i. h b (omega arith) (omega arith) passes i && more j i

by_number : (q : ℕ → Bool) (tags : List VlanId) → list_all (λ tag. q tag.0) tags ≡ list_all q (map (λ tag. tag.0) tags)
by_number q [] = refl
by_number q (tag ∷ tags) = ap (λ b. q tag.0 && b) (by_number q tags)

-- ---- WHAT IS TAKEN of the claims
module _ (held : Held) (n : ℕ) (tags : List VlanId) (taken : AreTaken (free_ids held) n (Ok tags)) where
  pub as_many : length tags ≡ n
  as_many =
      let same : length (map (λ tag. tag.0) tags) ≡ length (take n (free_ids held)) = ap length taken.1 in
      omega (arith, length-map tags (λ (tag : VlanId). tag.0), same, length-take-le n (free_ids held) taken.0)

  pub are_free : are_free_ids held tags ≡ true
  are_free =
      let is_free : ℕ → Bool = λ id. not (has_id held.entries id) in
      let fits : ℕ → Bool = λ id. nat_le held.range.0 id && nat_le id held.range.1 && is_free id in
      let each : (x : ℕ) → held.range.0 ≤ x → x < held.range.0 + size_of held.range → is_free x ≡ true → fits x ≡ true
      = λ x low high free. λ i. le-leb held.range.0 x low i && le-leb x held.range.1 (omega (arith, low, high)) i && free i in
      let one : all_differ (map (λ tag. tag.0) tags) ≡ true = ap all_differ taken.1 ∙ differ is_free held.range.0 (size_of held.range) n in
      let two : list_all (λ tag. fits tag.0) tags ≡ true = by_number fits tags ∙ ap (list_all fits) taken.1 ∙ each_passes is_free fits held.range.0 (size_of held.range) n each in
      λ i. one i && two i

-- so they are free beside the experiments
pub free_of_all : (lab : Lab) (es : List Experiment) (held : Held) (w : Wiring) (tags : List VlanId) → AllDiffer (map (λ e. e.name) es) → ClaimsOf lab es held → AreTaken (free_ids held) (length w.segments) (Ok tags) → are_free_tags lab es w tags ≡ true
free_of_all lab es held w tags names of_es taken =
    free_tags lab es held w tags names of_es
    ∙ (λ i. eq-eqb (length tags) (length w.segments) (as_many held (length w.segments) tags taken) i && are_free held (length w.segments) tags taken i)

-- and each fits 16 bits
pub each_fits : (lab : Lab) (es : List Experiment) (w : Wiring) (tags : List VlanId) → IsLab lab → are_free_tags lab es w tags ≡ true → (tag : VlanId) → Has tags tag → tag.0 < 2 ^ 16
each_fits lab es w tags is_lab free tag h =
    let fits : VlanId → Bool = λ tag. nat_le lab.range.0 tag.0 && nat_le tag.0 lab.range.1 && not (list_any (λ u. u == tag.0) (flat_map claimed_tags es)) in
    let one : fits tag ≡ true = all_has fits tags tag (and_parts ((length tags == length w.segments) && all_differ (map (λ tag. tag.0) tags)) (list_all fits tags) free).1 h in
    let within : (nat_le lab.range.0 tag.0 ≡ true) × (nat_le tag.0 lab.range.1 ≡ true)
    = and_parts (nat_le lab.range.0 tag.0) (nat_le tag.0 lab.range.1) (and_parts (nat_le lab.range.0 tag.0 && nat_le tag.0 lab.range.1) (not (list_any (λ u. u == tag.0) (flat_map claimed_tags es))) one).0 in
    omega (arith, leb-true tag.0 lab.range.1 within.1, (in_order lab.range.0 lab.range.1 is_lab.range).last_id)
