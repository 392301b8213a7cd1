use Rattle.plain_model.proofs.HoldsLaws.{in_from}
use Rattle.plain_model.proofs.uses.use_in.Goals as goal

pub use_of-requires-clause-shaped : goal.use_of-requires-clause-shaped
use_of-requires-clause-shaped c = (in_from c.args.lab.now c.args.mapped.now c.in-Some.mapped c.requires.fits c.in-Some.is).shaped
