use Rattle.std.proofs.Common.{arith, w64}
use Rattle.std.proofs.lemmas.Int.{ints, to_z-of_z, quot_is}
use Rattle.tcl_eval.proofs.Floor.{quotient_fits}
use Rattle.tcl_eval.proofs.operators.cut.Goals as goal

pub nonzero_div-result : goal.nonzero_div-result
nonzero_div-result c =
    (omega (arith, ints), simp (to_z-of_z w64 c.args.left c.ranges.left, to_z-of_z w64 c.args.right c.ranges.right) (quotient_fits w64 c.args.left c.args.right c.ranges.left c.requires.no_sign))

pub returns : goal.returns
returns c = quot_is w64 c.args.left c.args.right c.ranges.left c.ranges.right (quotient_fits w64 c.args.left c.args.right c.ranges.left c.requires.no_sign)
