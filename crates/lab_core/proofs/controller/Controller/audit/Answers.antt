use Rattle.std.proofs.Common.{Ok, sym, subst}
use Rattle.script_text.specs.declared.command.Command.TheVariants as commands
use Rattle.script_text.specs.declared.reply.Reply.TheVariants as replies
use Rattle.lab_core.specs.Controller.{Control, WorksWith, control}
use Rattle.lab_core.specs.Obey.{ObeysCommand}
use Rattle.lab_core.proofs.Unanswered.{audit_broken, audit_no_lab, audit_tells}
use Rattle.lab_core.proofs.controller.Controller.audit.Goals as goal
use Rattle.lab_core.proofs.controller.Controller.audit.Goals.{in-Ok, in-Err}

pub returns-in_default : goal.returns-in_default
returns-in_default g c = λ rule opens devices within works.
    let before = g.P.Plant.seen c.args.plant.now in
    let inside = control c.self.inside.lab.state c.self.inside.journal c.self.inside.swaps in
    let works_inside = subst (λ (k : Control). WorksWith before k opens) (sym c.self.view_is) works in
    subst (λ (k : Control). ObeysCommand rule commands.Audit devices before before k k opens (Ok replies.NoLab)) c.self.view_is
    (audit_no_lab rule devices before before inside opens works_inside (sym c.in_default.ensures.lab))

pub returns : goal.returns
returns g c = λ rule opens devices within works.
    let before = g.P.Plant.seen c.args.plant.now in
    let now = g.P.Plant.seen c.audit.new.plant in
    elim c.match-audit.branch [
      | in-Ok w ↦
          let inside = control c.self.inside.lab.state c.self.inside.journal c.self.inside.swaps in
          let works_inside = subst (λ (k : Control). WorksWith before k opens) (sym c.self.view_is) works in
          rw w.result-is
          (subst (λ (k : Control). ObeysCommand rule commands.Audit devices before now k k opens (Ok (replies.Audit w.in-Ok.lines))) c.self.view_is
          (audit_tells rule devices before now inside opens works_inside w.in-Ok.lines w.in-Ok.ensures.reads w.in-Ok.ensures.exact w.in-Ok.ensures.switches))
      | in-Err w ↦
          rw (w.result-is, w.broken_by.ensures) (audit_broken rule devices before now c.args.self.now opens works within w.in-Err.fault w.in-Err.ensures.reads)
    ]
