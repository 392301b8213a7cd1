use Rattle.std.proofs.Common.{sym, Ok, ℤ, w64, arith, subst}
use Rattle.std.proofs.lemmas.Int.{ints, to_z-of_z}
use mir.Val.{SFits}
use Rattle.tcl_eval.specs.declared.operators.Operator.TheVariants.{Modulo}
use Rattle.tcl_eval.specs.Numbers.{Applies}
use Rattle.tcl_eval.proofs.Floor.{modulo_against, modulo_along}
use Rattle.tcl_eval.proofs.operators.remainder.Goals as goal

pub returns-then-is_against : goal.returns-then-is_against
returns-then-is_against c =
    let rest : SFits w64 c.wrapping_rem-rest.result = record { sfits = c.wrapping_rem-rest.type_inv } in
    subst (λ (x : ℤ). Applies Modulo c.args.left c.args.right (Ok x)) (sym (to_z-of_z w64 c.with_sign.result (record { sfits = c.with_sign.type_inv })))
    (modulo_against c.args.left c.args.right c.wrapping_rem-rest.result c.with_sign.result (omega (arith, ints))
    (simp (to_z-of_z w64 c.args.left c.ranges.left, to_z-of_z w64 c.args.right c.ranges.right) at c.wrapping_rem-rest.ensures)
    (simp (to_z-of_z w64 c.wrapping_rem-rest.result rest, to_z-of_z w64 c.args.right c.ranges.right) at c.if-is_against.ensures)
    (simp (to_z-of_z w64 c.wrapping_rem-rest.result rest, to_z-of_z w64 c.args.right c.ranges.right) at c.with_sign.ensures))

pub returns-else-is_against : goal.returns-else-is_against
returns-else-is_against c =
    let rest : SFits w64 c.wrapping_rem-rest.result = record { sfits = c.wrapping_rem-rest.type_inv } in
    subst (λ (x : ℤ). Applies Modulo c.args.left c.args.right (Ok x)) (sym (to_z-of_z w64 c.wrapping_rem-rest.result rest))
    (modulo_along c.args.left c.args.right c.wrapping_rem-rest.result (omega (arith, ints))
    (simp (to_z-of_z w64 c.args.left c.ranges.left, to_z-of_z w64 c.args.right c.ranges.right) at c.wrapping_rem-rest.ensures)
    (simp (to_z-of_z w64 c.wrapping_rem-rest.result rest, to_z-of_z w64 c.args.right c.ranges.right) at c.if-is_against.ensures))
