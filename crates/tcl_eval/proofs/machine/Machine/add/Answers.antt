use Rattle.std.proofs.Common.{rules, w64, ◌≡◌, ℕ, ◌∷◌, List, Result, Ok, Err, ap, ◌∙◌}
use Rattle.std.proofs.lemmas.Result.{err_from_is_err_and}
use mir.Val.{SFits}
use Rattle.std.proofs.lemmas.Int.{to_z-of_z}
use Rattle.std.specs.Fmt.{signed_decimal}
use Rattle.lab_base.specs.declared.fault.Kind.{Kind}
use Rattle.tcl_eval.specs.Jobs.{Call, Value}
use Rattle.tcl_eval.specs.Settings.{step_of}
use Rattle.tcl_eval.specs.State.{state, read_of}
use Rattle.tcl_eval.specs.Evals.{incr_fails, incr_adds}
use Rattle.tcl_eval.proofs.Exits.{gives_ends}
use Rattle.tcl_eval.proofs.Rules.{value_on}
use Rattle.tcl_eval.proofs.Sums.{sum_unread, sum_read}
use Rattle.tcl_eval.proofs.machine.Machine.add.Goals as goal

pub returns-in_err-old-clause-evals : goal.returns-in_err-old-clause-evals
returns-in_err-old-clause-evals g c = λ line l cmd more mine few step.
    let s = state c.args.self.now.variables.entries (g.H.Host.objects c.args.self.now.host) c.args.self.now.left in
    let p = err_from_is_err_and c.from_residual.result c.from_residual.ensures.1 in
    rw (p.1, p.2) (gives_ends (g.H.Host.calls line) g.H.Host.hears (λ (r : Result (List ℕ) Kind). r ≡ read_of s c.args.name.now) Value l (Call (cmd ∷ c.args.name.now ∷ more)) s s
    c.in_err-old.field-0.0 (λ k h. incr_fails mine few (sum_unread (read_of s c.args.name.now) (step_of more) k h)) c.in_err-old.ensures)

pub returns-in_err-new-clause-evals : goal.returns-in_err-new-clause-evals
returns-in_err-new-clause-evals g c = λ line l cmd more mine few step.
    let s = state c.args.self.now.variables.entries (g.H.Host.objects c.args.self.now.host) c.args.self.now.left in
    let p = err_from_is_err_and c.from_residual-in_err-new.result c.from_residual-in_err-new.ensures.1 in
    rw (p.1, p.2) (incr_fails mine few (sum_read (read_of s c.args.name.now) c.in_ok-old.old c.args.step (step_of more) c.read_number.result (Err c.in_err-new.field-0.0)
    c.in_ok-old.ensures (rw c.bytes.ensures at c.read_number.ensures) step c.in_err-new.ensures))

pub returns-clause-evals : goal.returns-clause-evals
returns-clause-evals g c = λ line l cmd more mine few step.
    let s = state c.args.self.now.variables.entries (g.H.Host.objects c.args.self.now.host) c.args.self.now.left in
    let f : SFits w64 c.in_ok-new.new = search rules in
    let e : c.in_ok-new-2.new ≡ signed_decimal c.in_ok-new.new = c.in_ok-new-2.ensures ∙ ap signed_decimal (to_z-of_z w64 c.in_ok-new.new f) in
    rw e (value_on (g.H.Host.calls line) g.H.Host.hears l s (state c.write.new.self.variables.entries (g.H.Host.objects c.write.new.self.host) c.write.new.self.left)
    (Call (cmd ∷ c.args.name.now ∷ more)) c.args.name.now (signed_decimal c.in_ok-new.new) (rw e at c.in_ok-write.ensures.written)
    (incr_adds c.in_ok-new.new mine few (sum_read (read_of s c.args.name.now) c.in_ok-old.old c.args.step (step_of more) c.read_number.result (Ok c.in_ok-new.new)
    c.in_ok-old.ensures (rw c.bytes.ensures at c.read_number.ensures) step c.in_ok-new.ensures)))
