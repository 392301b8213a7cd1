use Rattle.ns_build.proofs.KeepingEvents.{all_limited}
use Rattle.ns_build.proofs.host.NsHost.events.Goals as goal

pub returns-clause-limits : goal.returns-clause-limits
returns-clause-limits c = all_limited _ c.named_events.result c.self.invariant c.named_events.ensures
