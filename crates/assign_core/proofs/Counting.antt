-- Products that are cut off at a bound.
use Rattle.std.proofs.Common.{◌≡◌, ◌≤◌, ◌<◌, ◌∙◌, ◌+◌, ◌*◌, [], inl, inr, ℕ, List, length, drop, get_or, min, zero, suc, sym, ap, arith}
use Rattle.std.proofs.Math.Nat.{mul-le-mul_left}
use Rattle.std.proofs.lemmas.Bool.{cases_lt}
use Rattle.lab_base.proofs.Lists.{item_at}
use Rattle.lab_model.specs.Shapes.{Place}
use Rattle.assign_core.specs.Exact.{count}
use Rattle.assign_core.proofs.Choosing.{get_or_here}

-- cutting off before a product with more changes nothing after it
pub cut_product : (a r c : ℕ) → min (min a c * r) c ≡ min (a * r) c
cut_product a zero c = omega arith
cut_product a (suc r) c = elim (cases_lt a c) [
  | inl below ↦ (let same : min a c ≡ a = omega arith in ap (λ x. min (x * suc r) c) same)
  | inr above ↦ (
      let same : min a c ≡ c = omega arith in
      let one : 1 ≤ suc r = omega arith in
      let left : c * 1 ≤ c * suc r = mul-le-mul_left c one in
      let right : a * 1 ≤ a * suc r = mul-le-mul_left a one in
      let at_least : min (c * suc r) c ≡ c = omega arith in
      let at_least' : min (a * suc r) c ≡ c = omega arith in
      ap (λ x. min (x * suc r) c) same ∙ at_least ∙ sym at_least')
]

pub count_step : (cs : List (List Place)) (k : ℕ) → k < length cs → count (drop k cs) ≡ length (get_or cs k []) * count (drop (k + 1) cs)
count_step cs k lt = ap count (item_at cs k (get_or cs k []) lt (get_or_here cs k lt))
