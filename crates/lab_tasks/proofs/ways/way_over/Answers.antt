use Rattle.std.proofs.Common.{true, false}
use Rattle.lab_tasks.proofs.WaysIn.{over_is}
use Rattle.lab_tasks.proofs.ways.way_over.Goals as goal

pub returns-then-second-clause-is : goal.returns-then-second-clause-is
returns-then-second-clause-is c = over_is true c.args.exp c.args.top c.args.map c.args.tags c.bytes-named.ensures.named c.requires.top c.requires.map c.requires.few c.requires.ids

pub returns-else-second-clause-is : goal.returns-else-second-clause-is
returns-else-second-clause-is c = over_is false c.args.exp c.args.top c.args.map c.args.tags c.bytes-named.ensures.named c.requires.top c.requires.map c.requires.few c.requires.ids
