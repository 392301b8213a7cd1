-- Where the right side of an operator is evaluated.
use Rattle.std.proofs.Common.{◌≡◌, ℤ, Bool, true, false, not, w64, to_z, of_z, refl, subst}
use Rattle.std.proofs.lemmas.Int.{to_z-of_z}
use mir.Val.{SFits}
use Rattle.std.specs.Prelude.{IsTrue, ◌↔◌}
use Rattle.tcl_eval.specs.declared.operators.Operator.{Operator}
use Rattle.tcl_eval.specs.Numbers.{IsDecided, IsNeeded}

pub needed_by : (op : Operator) (z : ℤ) (d : Bool) → (IsTrue d ↔ IsDecided op z) → IsNeeded true op z (not d)
needed_by op z true h = h.0 refl
needed_by op z false h = λ decided. let e : false ≡ true = h.1 decided in cc e

pub needed_at : (op : Operator) (z : ℤ) (d : Bool) → SFits w64 z → (IsTrue d ↔ IsDecided op (to_z w64 (of_z w64 z))) → IsNeeded true op z (not d)
needed_at op z d f h = subst (λ (x : ℤ). IsNeeded true op x (not d)) (to_z-of_z w64 z f) (needed_by op (to_z w64 (of_z w64 z)) d h)
