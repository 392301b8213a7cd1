use Rattle.std.proofs.Common.{sym, Ok, ℤ, pos, neg_ℤ, ◌-ℤ◌, w64, arith, subst}
use Rattle.std.proofs.lemmas.Int.{ints, to_z-of_z}
use mir.Val.{SFits}
use Rattle.tcl_eval.specs.declared.operators.Operator.TheVariants.{Over}
use Rattle.tcl_eval.specs.Numbers.{IsValue, Applies}
use Rattle.tcl_eval.proofs.Floor.{over_sign, over_against, over_along}
use Rattle.tcl_eval.proofs.operators.quotient.Goals as goal

pub returns-then-right-eqminus1 : goal.returns-then-right-eqminus1
returns-then-right-eqminus1 c =
    over_sign c.args.left c.args.right c.negated.result (omega (arith, ints)) (omega (arith, ints))
    (subst (λ (x : ℤ). IsValue (neg_ℤ x) c.negated.result) (to_z-of_z w64 c.args.left c.ranges.left) c.negated.ensures)

pub returns-then-is_against : goal.returns-then-is_against
returns-then-is_against c =
    over_against c.args.left c.args.right c.cut.result c.wrapping_rem-rest.result c.less_one.result (omega (arith, ints))
    (simp (to_z-of_z w64 c.args.left c.ranges.left, to_z-of_z w64 c.args.right c.ranges.right) at c.wrapping_rem-rest.ensures)
    (simp (to_z-of_z w64 c.args.left c.ranges.left, to_z-of_z w64 c.args.right c.ranges.right) at c.cut.ensures)
    (simp (to_z-of_z w64 c.wrapping_rem-rest.result (record { sfits = c.wrapping_rem-rest.type_inv }), to_z-of_z w64 c.args.right c.ranges.right) at c.if-is_against.ensures)
    (subst (λ (x : ℤ). IsValue (x -ℤ pos 1) c.less_one.result) (to_z-of_z w64 c.cut.result (record { sfits = c.cut.type_inv })) c.less_one.ensures)

pub returns-else-is_against : goal.returns-else-is_against
returns-else-is_against c =
    let fits : SFits w64 c.cut-else-is_against.result = record { sfits = c.cut-else-is_against.type_inv } in
    subst (λ (x : ℤ). Applies Over c.args.left c.args.right (Ok x)) (sym (to_z-of_z w64 c.cut-else-is_against.result fits))
    (over_along c.args.left c.args.right c.cut-else-is_against.result c.wrapping_rem-rest.result (omega (arith, ints))
    (simp (to_z-of_z w64 c.args.left c.ranges.left, to_z-of_z w64 c.args.right c.ranges.right) at c.wrapping_rem-rest.ensures)
    (simp (to_z-of_z w64 c.args.left c.ranges.left, to_z-of_z w64 c.args.right c.ranges.right) at c.cut-else-is_against.ensures)
    (simp (to_z-of_z w64 c.wrapping_rem-rest.result (record { sfits = c.wrapping_rem-rest.type_inv }), to_z-of_z w64 c.args.right c.ranges.right) at c.if-is_against.ensures)
    fits)
