use Rattle.std.proofs.Common.{◌≡◌, map, take}
use Rattle.ns_build.specs.Networks.{named_event}
use Rattle.ns_build.proofs.network.Network.named_events.Given as goal

abbrev pub invariant-loop-event : goal.invariant-loop-event
invariant-loop-event l = l.events ≡ map (named_event l.self) (take l.event-index l.self.events)
