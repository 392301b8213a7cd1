use Rattle.std.proofs.Common.{Ok, Result, ap, refl, sym}
use Rattle.std.proofs.lemmas.Result.{err_from_is_err_and}
use Rattle.journal_rec.specs.declared.record.Record.{Record}
use Rattle.journal_rec.specs.declared.record.Record.TheVariants.{Delete}
use Rattle.script_text.specs.declared.reply.Reply.{Reply}
use Rattle.script_text.specs.declared.reply.Reply.TheVariants.{Deleted}
use Rattle.lab_tasks.specs.Tasks.{Append, Task}
use Rattle.lab_tasks.specs.Needs.{need_idle_out}
use Rattle.lab_tasks.specs.declared.task.Task.TheVariants as tasks
use Rattle.lab_tasks.specs.OpenNames.{has_open}
use Rattle.lab_judge.proofs.JudgeTasks.{can_delete}
use Rattle.lab_tasks.proofs.Checks.{given_by, refused_by}
use Rattle.lab_judge.proofs.command.judge_delete.Goals as goal

pub returns-in_err-_idle-clause-judged : goal.returns-in_err-_idle-clause-judged
returns-in_err-_idle-clause-judged c =
    let p = err_from_is_err_and c.from_residual.result c.from_residual.ensures.1 in
    rw (p.1, p.2) (refused_by (need_idle_out c.args.present.now.state.now.state (has_open c.args.present.now.swaps.now c.args.exp) c.args.exp) _ c.in_err-_idle.field-0.0 c.in_err-_idle.ensures.refuses)

pub returns-clause-judged : goal.returns-clause-judged
returns-clause-judged c =
    given_by (need_idle_out c.args.present.now.state.now.state (has_open c.args.present.now.swaps.now c.args.exp) c.args.exp) (λ p. Ok (Append (Delete c.args.exp) (Deleted c.args.exp))) (c.in_ok-_idle._idle.0.now, c.in_ok-_idle._idle.1.now) (Ok (tasks.Append c.delete_record.result (Deleted c.args.exp))) c.in_ok-_idle.ensures.occupied
    (ap (λ (r : Record). let j : Result Task Reply = Ok (Append r (Deleted c.args.exp)) in j) (sym c.delete_record.ensures.entry))

pub returns-clause-can : goal.returns-clause-can
returns-clause-can c =
    can_delete c.args.present.now.state.now.state c.args.exp c.in_ok-_idle._idle.1.now c.in_ok-_idle._idle.0.now c.delete_record.result (Deleted c.args.exp) c.in_ok-_idle.ensures.out.there.is_lab c.in_ok-_idle.ensures.found c.in_ok-_idle.ensures.out.out c.delete_record.ensures.entry c.delete_record.ensures.is (refl, refl, refl)
