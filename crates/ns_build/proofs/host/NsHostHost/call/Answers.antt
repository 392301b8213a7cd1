use Rattle.std.proofs.Common.{sym, subst}
use Rattle.ns_build.specs.Kept.{IsKept}
use Rattle.ns_build.proofs.Keeping.{keeps}
use Rattle.ns_build.proofs.host.NsHostHost.call.Goals as goal
use Rattle.ns_build.proofs.host.NsHostHost.call.Goals.{in-Ok-obey, in-Err}

pub invariant_of-self : goal.invariant_of-self
invariant_of-self c = elim c.match-obey.branch [
  | in-Ok-obey w ↦ keeps c.args.line c.self.inside.network c.obey.new.self c.args.words.now c.in-Ok.task c.self.invariant c.in-Ok.ensures w.in-Ok-obey.ensures.ok
  | in-Err w ↦ subst IsKept (sym w.in-Err.ensures.err) c.self.invariant
]
