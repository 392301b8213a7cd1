use Rattle.std.proofs.Common.{refl}
use Rattle.tcl_eval.proofs.Needs.{needed_at}
use Rattle.tcl_eval.proofs.operators.Operator.is_needed.Goals as goal

pub returns-then-live : goal.returns-then-live
returns-then-live c = rw c.if-live.true (needed_at c.args.self c.args.left c.is_decided.result c.ranges.left c.is_decided.ensures)

pub returns-else-live : goal.returns-else-live
returns-else-live c = rw c.if-live.false refl
