use Rattle.std.proofs.Common.{◌≡◌, map, take}
use Rattle.lab_ahead.specs.Givings.{has_type}
use Rattle.lab_ahead.specs.Served.{promise_at}
use Rattle.lab_ahead.proofs.served.Served.row_for.Given as goal

abbrev pub invariant-loop-node : goal.invariant-loop-node
invariant-loop-node l = l.row.items ≡ map (has_type l.self.lab.now (promise_at l.self.promises.now l.number).kind) (take l.node-index l.nodes)
