use Rattle.lab_tasks.proofs.EventChanges.{events_are_changes}
use Rattle.lab_tasks.proofs.laws.link_events.Goals as goal

pub returns : goal.returns
returns c = events_are_changes
