use Rattle.lab_ahead.proofs.Halls.{never_fits}
use Rattle.lab_ahead.proofs.fitting.short_types_never_fit.Goals as goal

pub returns : goal.returns
returns c = never_fits
