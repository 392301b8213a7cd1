use Rattle.plain_model.proofs.HoldsLaws.{in_from}
use Rattle.plain_model.proofs.nodes.wants_of.Goals as goal

pub node_row_of-requires-clause-sound : goal.node_row_of-requires-clause-sound
node_row_of-requires-clause-sound c = (in_from c.args.lab.now c.args.mapped.now c.in-Some.m c.requires.fits c.in-Some.is).sound

pub node_row_of-requires-clause-shaped : goal.node_row_of-requires-clause-shaped
node_row_of-requires-clause-shaped c = (in_from c.args.lab.now c.args.mapped.now c.in-Some.m c.requires.fits c.in-Some.is).shaped
