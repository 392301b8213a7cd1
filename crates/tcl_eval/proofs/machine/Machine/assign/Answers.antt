use Rattle.tcl_eval.specs.State.{state}
use Rattle.tcl_eval.proofs.Rules.{sets_on, set_fails_on}
use Rattle.tcl_eval.proofs.machine.Machine.assign.Goals as goal

pub returns-in_ok-copy-in-Ok-clause-evals : goal.returns-in_ok-copy-in-Ok-clause-evals
returns-in_ok-copy-in-Ok-clause-evals g c = λ line l cmd mine.
    rw c.in_ok-copy-in-Ok.ensures (sets_on (g.H.Host.calls line) g.H.Host.hears l (state c.args.self.now.variables.entries (g.H.Host.objects c.args.self.now.host) c.args.self.now.left)
    (state c.write.new.self.variables.entries (g.H.Host.objects c.write.new.self.host) c.write.new.self.left)
    cmd c.args.name.now c.args.value.now (g.H.Host.objects c.assigned.new.self) c.in_ok-write.ensures.written mine c.in-Ok.ensures)

pub returns-in-Err-Kind-clause-evals : goal.returns-in-Err-Kind-clause-evals
returns-in-Err-Kind-clause-evals g c = λ line l cmd mine.
    set_fails_on (g.H.Host.calls line) g.H.Host.hears l (state c.args.self.now.variables.entries (g.H.Host.objects c.args.self.now.host) c.args.self.now.left)
    (state c.write.new.self.variables.entries (g.H.Host.objects c.write.new.self.host) c.write.new.self.left)
    cmd c.args.name.now c.args.value.now c.in-Err-Kind.kind (g.H.Host.objects c.assigned.new.self) c.in_ok-write.ensures.written mine (rw c.in-Err-Kind.field-0-is at c.in-Err-Kind.ensures)
