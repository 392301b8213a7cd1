use Rattle.std.proofs.Common.{◌≡◌, filter, take}
use Rattle.ns_events.specs.Schedules.{is_due}
use Rattle.ns_events.proofs.schedules.due.Given as goal

abbrev pub invariant-loop-event : goal.invariant-loop-event
invariant-loop-event l = l.due.items ≡ filter (is_due l.from l.to) (take l.event-index l.events)
