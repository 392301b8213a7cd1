use Rattle.ns_events.proofs.OneApplied.{applied_once}
use Rattle.ns_events.proofs.laws.applied_is_one.Goals as goal

pub returns : goal.returns
returns c = applied_once
