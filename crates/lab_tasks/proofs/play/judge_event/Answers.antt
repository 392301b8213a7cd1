use Rattle.std.proofs.Common.{Err, false, length, subst, sym}
use Rattle.std.proofs.lemmas.Result.{err_from_is_err_and}
use Rattle.lab_model.specs.Shapes.{IsShaped}
use Rattle.virt_topo.specs.declared.mapping.Mapping.{Mapping}
use Rattle.lab_tasks.specs.OpenNames.{has_open}
use Rattle.lab_tasks.specs.Mappings.{in_slot, judged_change}
use Rattle.lab_tasks.specs.Needs.{need_idle_in}
use Rattle.lab_tasks.specs.Playing.{JudgedChange, need_shape}
use Rattle.lab_tasks.specs.Tasks.{Gives}
use Rattle.lab_tasks.proofs.JudgeSwap.{sound_of}
use Rattle.lab_tasks.proofs.Asked.{asked_so, refuses_so}
use Rattle.lab_tasks.proofs.JudgePlay.{change_judged, shaped_there, still_shaped}
use Rattle.lab_tasks.proofs.play.judge_event.Goals as goal

pub returns-in_err-lab-clause-judged : goal.returns-in_err-lab-clause-judged
returns-in_err-lab-clause-judged c =
    let p = err_from_is_err_and c.from_residual.result c.from_residual.ensures.1 in
    rw (p.1, p.2) (refuses_so (need_idle_in c.args.present.now.state.now.state (has_open c.args.present.now.swaps.now c.args.exp) c.args.exp) _ c.in_err-lab.field-0.0 c.in_err-lab.ensures.refuses)

pub changed_wiring-requires-clause-now : goal.changed_wiring-requires-clause-now
changed_wiring-requires-clause-now c = sound_of c.args.present.now.state.now.state c.in_ok-lab.lab.now c.in_ok-lab.experiment.now c.in_ok-lab.ensures.inside.there

pub returns-in-Err-clause-judged : goal.returns-in-Err-clause-judged
returns-in-Err-clause-judged c =
    asked_so (need_idle_in c.args.present.now.state.now.state (has_open c.args.present.now.swaps.now c.args.exp) c.args.exp) _ (c.in_ok-lab.lab.now, c.in_ok-lab.experiment.now) (Err c.in-Err.refusal) c.in_ok-lab.ensures.occupied
    (refuses_so (need_shape c.args.exp c.args.text.now c.args.event.now c.in_ok-lab.experiment.now.wiring) _ c.in-Err.refusal c.in-Err.ensures.refuses)

pub judge_change-judged-requires-clause-shaped : goal.judge_change-judged-requires-clause-shaped
judge_change-judged-requires-clause-shaped c =
    let e = c.in_ok-lab.experiment.now in
    subst (λ (m : Mapping). IsShaped c.in_ok-lab.lab.now c.in-Ok.wiring m) (sym c.in_ok-same.ensures)
    (still_shaped c.args.event.now c.args.text.now e.wiring c.in-Ok.wiring c.in-Ok.ensures.applied c.in_ok-lab.lab.now c.in_ok-lab.mapping.now
    (shaped_there c.args.present.now.state.now.state c.in_ok-lab.lab.now e c.in_ok-lab.mapping.now c.in_ok-lab.tags.now c.in_ok-lab.ensures.inside))

pub returns-clause-judged : goal.returns-clause-judged
returns-clause-judged c =
    let s = c.args.present.now.state.now.state in
    let lab = c.in_ok-lab.lab.now in
    let e = c.in_ok-lab.experiment.now in
    let count = length c.args.present.now.swaps.now in
    let gives = c.in_slot.ensures.judged (judged_change s lab e c.in-Ok.wiring c.in_ok-same.same) c.judge_change-judged.ensures.judged in
    asked_so (need_idle_in s (has_open c.args.present.now.swaps.now c.args.exp) c.args.exp) _ (lab, e) c.in_slot.result c.in_ok-lab.ensures.occupied
    (asked_so (need_shape c.args.exp c.args.text.now c.args.event.now e.wiring) (λ shaped. JudgedChange c.args.exp c.args.text.now c.args.event.now s count lab e) tt c.in_slot.result c.in-Ok.ensures.shaped
    (change_judged c.args.exp c.args.text.now c.args.event.now s count lab e c.in-Ok.wiring c.in-Ok.ensures.applied c.in_ok-lab.mapping.now c.in_ok-lab.tags.now c.in_ok-lab.ensures.inside.inside c.in_slot.result
    (subst (λ (m : Mapping). Gives (in_slot count false (judged_change s lab e c.in-Ok.wiring m)) c.in_slot.result) c.in_ok-same.ensures gives)))

pub returns-clause-can : goal.returns-clause-can
returns-clause-can c = c.in_slot.ensures.can c.args.present.now.state.now.state c.judge_change-judged.ensures.can
