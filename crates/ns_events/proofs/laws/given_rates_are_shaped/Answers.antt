use Rattle.ns_events.proofs.Shaping.{are_shaped}
use Rattle.ns_events.proofs.laws.given_rates_are_shaped.Goals as goal

pub returns : goal.returns
returns c = are_shaped
