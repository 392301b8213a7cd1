use Rattle.std.proofs.Common.{arith}
use Rattle.swap_txn.proofs.Positions.{place_on, place_after}
use Rattle.swap_txn.proofs.position.after.Goals as goal

pub returns-then-at-count : goal.returns-then-at-count
returns-then-at-count c = place_on c.args.commands.now c.args.stage c.args.at (omega arith)

pub returns-else-at-count : goal.returns-else-at-count
returns-else-at-count c = place_after c.args.commands.now c.args.stage c.behind.result c.args.at (omega arith) (omega arith) c.behind.ensures
