use Rattle.std.proofs.Common.{◌≡◌, ℕ, false, List, Ok, Err, refl, sym, subst}
use Rattle.script_text.specs.declared.command.Command.{Command}
use Rattle.script_text.specs.declared.command.Command.TheVariants as commands
use Rattle.lab_judge.specs.Judge.{is_unjudged}
use Rattle.lab_core.specs.declared.fault.CoreFault.TheVariants as faults
use Rattle.lab_core.specs.Controller.{Control, WorksWith, control}
use Rattle.lab_core.specs.LabSteps.{JudgedBeside}
use Rattle.lab_tasks.specs.OpenNames.{name_of}
use Rattle.lab_core.specs.Perform.{IsReady}
use Rattle.lab_tasks.specs.Tasks.{CanDo, task_of}
use Rattle.lab_core.proofs.Obey.{refuses, wanted}
use Rattle.lab_core.proofs.ObeyJudged.{done_beside, refused_beside}
use Rattle.lab_core.proofs.Readiness.{ready_of_judged}
use Rattle.lab_core.proofs.Wanting.{plain_obeys}
use Rattle.script_text.proofs.Blocks.{block_length}
use Rattle.lab_core.proofs.controller.Controller.obey.Goals as goal

-- what is neither a list of commands nor an audit
judged_alone : (command : Command) → ((exp : List ℕ) (from to lines : ℕ) (text : List ℕ) → command ≡ commands.Play exp from to lines text → ⊥) → ((moment lines : ℕ) (text : List ℕ) → command ≡ commands.Batch moment lines text → ⊥) → (command ≡ commands.Audit → ⊥)
    → is_unjudged command ≡ false
judged_alone (commands.Play exp from to lines text) play batch audit = absurd (play exp from to lines text refl)
judged_alone (commands.Batch moment lines text) play batch audit = absurd (batch moment lines text refl)
judged_alone commands.Audit play batch audit = absurd (audit refl)
judged_alone command play batch audit = refl

pub serve-requires-clause-moment : goal.serve-requires-clause-moment
serve-requires-clause-moment g c = (rw c.in-Batch.is at c.requires.blocks).0

pub serve-requires-clause-size : goal.serve-requires-clause-size
serve-requires-clause-size g c = rw c.bytes-in-Batch.ensures (block_length c.in-Batch.lines c.in-Batch.text (rw c.in-Batch.is at c.requires.blocks).1)

pub judge-requires-clause-alone : goal.judge-requires-clause-alone
judge-requires-clause-alone g c = judged_alone c.args.command.now c.in_default.not-Play c.in_default.not-Batch c.in_default.not-Audit

pub perform-requires-clause-can : goal.perform-requires-clause-can
perform-requires-clause-can g c = subst (λ (k : Control). CanDo k.lab c.in-Ok.task) c.self.view_is c.in-Ok.ensures.can

pub perform-requires-clause-ready : goal.perform-requires-clause-ready
perform-requires-clause-ready g c = subst (λ (k : Control). IsReady k.swaps (task_of c.in-Ok.task)) c.self.view_is (ready_of_judged c.args.rule.now.number c.self.inside.lab.state c.self.inside.swaps c.args.command.now (task_of c.in-Ok.task) c.in-Ok.ensures.judged)

pub returns-in-Ok : goal.returns-in-Ok
returns-in-Ok g c = record {
  obeys = λ opens devices within works.
      let before = g.P.Plant.seen c.args.plant.now in
      let now = g.P.Plant.seen c.perform.new.plant in
      let inside = control c.self.inside.lab.state c.self.inside.journal c.self.inside.swaps in
      let new = c.perform.new.self in
      let works_inside = subst (λ (k : Control). WorksWith before k opens) (sym c.self.view_is) works in
      plain_obeys c.args.rule.now.number c.args.command.now (judged_alone c.args.command.now c.in_default.not-Play c.in_default.not-Batch c.in_default.not-Audit) devices before now c.args.self.now new opens c.perform.result
      (done_beside before inside c.args.self.now c.self.view_is opens works_inside c.args.rule.now.number c.args.command.now devices now new (task_of c.in-Ok.task) c.perform.result c.in-Ok.ensures.judged (c.perform.ensures.obeyed opens devices (name_of c.args.command.now) within works));
}

pub returns-in-Err-Refused : goal.returns-in-Err-Refused
returns-in-Err-Refused g c = record {
  obeys = λ opens devices within works.
      let before = g.P.Plant.seen c.args.plant.now in
      let inside = control c.self.inside.lab.state c.self.inside.journal c.self.inside.swaps in
      let judged = rw c.in-Err-Refused.field-0-is at c.in-Err-Refused.ensures.judged in
      plain_obeys c.args.rule.now.number c.args.command.now (judged_alone c.args.command.now c.in_default.not-Play c.in_default.not-Batch c.in_default.not-Audit) devices before before c.args.self.now c.args.self.now opens (Ok c.in-Err-Refused.reply)
      (refuses devices before (JudgedBeside c.args.rule.now.number c.args.command.now opens c.args.self.now.lab) c.args.self.now opens (name_of c.args.command.now) c.in-Err-Refused.reply works
      (refused_beside before inside c.args.self.now c.self.view_is opens (subst (λ (k : Control). WorksWith before k opens) (sym c.self.view_is) works) c.args.rule.now.number c.args.command.now c.in-Err-Refused.reply judged));
}

pub returns-in-Err-Memory : goal.returns-in-Err-Memory
returns-in-Err-Memory g c = record {
  obeys = λ opens devices within works.
      plain_obeys c.args.rule.now.number c.args.command.now (judged_alone c.args.command.now c.in_default.not-Play c.in_default.not-Batch c.in_default.not-Audit) devices (g.P.Plant.seen c.args.plant.now) (g.P.Plant.seen c.args.plant.now) c.args.self.now c.args.self.now opens (Err faults.Memory)
      (wanted devices (g.P.Plant.seen c.args.plant.now) (JudgedBeside c.args.rule.now.number c.args.command.now opens c.args.self.now.lab) c.args.self.now opens (name_of c.args.command.now) works);
}
