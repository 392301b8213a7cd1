use Rattle.ns_events.proofs.Counting.{shapes_stay}
use Rattle.ns_events.proofs.laws.shapes_stay.Goals as goal

pub returns : goal.returns
returns c = shapes_stay
