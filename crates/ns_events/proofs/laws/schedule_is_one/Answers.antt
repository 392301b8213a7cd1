use Rattle.ns_events.proofs.OneSchedule.{schedule_once}
use Rattle.ns_events.proofs.laws.schedule_is_one.Goals as goal

pub returns : goal.returns
returns c = schedule_once
