use Rattle.lab_ahead.proofs.Spans.{later}
use Rattle.lab_ahead.proofs.times.later_moments.Goals as goal

pub returns : goal.returns
returns c = later
