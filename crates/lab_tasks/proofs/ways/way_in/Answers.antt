use Rattle.lab_tasks.proofs.WaysIn.{in_is}
use Rattle.lab_tasks.proofs.ways.way_in.Goals as goal

pub returns-clause-is : goal.returns-clause-is
returns-clause-is c = in_is c.args.exp c.args.map c.args.tags c.bytes-named.ensures.named c.requires.short c.requires.few c.requires.ids
