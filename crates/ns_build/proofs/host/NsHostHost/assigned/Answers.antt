use Rattle.std.proofs.Common.{sym, subst}
use Rattle.ns_build.specs.Kept.{IsKept}
use Rattle.ns_build.proofs.Keeping.{keeps_name}
use Rattle.ns_build.proofs.host.NsHostHost.assigned.Goals as goal
use Rattle.ns_build.proofs.host.NsHostHost.assigned.Goals.{in-Ok-obey, in-Err-obey}

pub invariant_of-self : goal.invariant_of-self
invariant_of-self c = elim c.match-obey.branch [
  | in-Ok-obey w ↦ keeps_name c.self.inside.network c.obey.new.self c.bytes.result.now c.bytes-2.result.now c.in-Ok.task c.self.invariant (sym c.in-Ok.ensures) w.in-Ok-obey.ensures.ok
  | in-Err-obey w ↦ subst IsKept (sym w.in-Err-obey.ensures.err) c.self.invariant
]
