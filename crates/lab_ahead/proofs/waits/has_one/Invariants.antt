use Rattle.std.proofs.Common.{◌≡◌, take, false}
use Rattle.lab_ahead.specs.Givings.{has_one}
use Rattle.lab_ahead.proofs.waits.has_one.Given as goal

abbrev pub invariant-loop-kind : goal.invariant-loop-kind
invariant-loop-kind l = has_one l.lab (take l.kind-index l.kinds) l.node ≡ false
