use Rattle.plain_model.proofs.HoldsLaws.{in_suits, moving_fits}
use Rattle.plain_model.proofs.uses.claimed_use.Goals as goal

pub use_of-requires-clause-shaped : goal.use_of-requires-clause-shaped
use_of-requires-clause-shaped c = (in_suits c.args.lab.now c.args.experiment.now c.in-In.mapping c.in-In.tags c.in-In.is c.requires.fits).shaped

pub use_in-requires-in-Moving-clause-fits : goal.use_in-requires-in-Moving-clause-fits
use_in-requires-in-Moving-clause-fits c = (moving_fits c.args.lab.now c.args.experiment.now c.in-Moving.old c.in-Moving.new c.in-Moving.is c.requires.fits).1
