use Rattle.std.proofs.Common.{Err, inl, inr, ap, ◌∙◌}
use Rattle.std.proofs.lemmas.Result.{err_from_is_err_and}
use Rattle.lab_state.specs.Texts.{the_texts}
use Rattle.recovery.proofs.Settling.{answered_as, answer_stops, answer_of_memory, later_as, later_same, memory_stops}
use Rattle.recovery.proofs.one.settle_one.Goals as goal

pub returns-in_err-finished-clause-over : goal.returns-in_err-finished-clause-over
returns-in_err-finished-clause-over g c = let p = err_from_is_err_and c.from_residual.result c.from_residual.ensures.1 in rw (p.1, p.2) (λ p name moves. tt)

pub returns-in_err-finished-clause-memory : goal.returns-in_err-finished-clause-memory
returns-in_err-finished-clause-memory g c = λ h. c.in_err-finished.ensures.err

pub returns-in_err-finished-clause-stopped : goal.returns-in_err-finished-clause-stopped
returns-in_err-finished-clause-stopped g c =
    let p = err_from_is_err_and c.from_residual.result c.from_residual.ensures.1 in
    λ running. memory_stops c.from_residual.result (g.P.Plant.seen c.args.plant.now) (g.P.Plant.seen c.turned_to_end.new.plant) (p.1 ∙ ap (λ e. Err e) p.2) (ap (λ x. g.P.Plant.seen x) c.in_err-finished.ensures.err.2) running

pub returns-in_err-finished-clause-later : goal.returns-in_err-finished-clause-later
returns-in_err-finished-clause-later g c = later_same (g.P.Plant.seen c.args.plant.now) (g.P.Plant.seen c.turned_to_end.new.plant) (ap (λ x. g.P.Plant.seen x) c.in_err-finished.ensures.err.2)

pub returns-clause-over : goal.returns-clause-over
returns-clause-over g c = λ p name moves.
    answered_as the_texts c.args.state.now.state p _ _ c.args.journal.now c.turned_to_end.new.journal c.turned_to_end.new.state.state c.in_ok-finished.finished c.answer.result (c.in_ok-finished.ensures.over p name moves) c.answer.ensures

pub returns-clause-memory : goal.returns-clause-memory
returns-clause-memory g c = λ h. absurd (answer_of_memory c.in_ok-finished.finished c.answer.result c.answer.ensures h)

pub returns-clause-stopped : goal.returns-clause-stopped
returns-clause-stopped g c = λ running.
    let told = answer_stops c.in_ok-finished.finished c.answer.result c.answer.ensures in
    let stops = c.in_ok-finished.ensures.stopped in
    (λ h. stops.0 (told.1 h), λ h. told.0 (stops.1 h))

pub returns-clause-later : goal.returns-clause-later
returns-clause-later g c =
    let m = c.requires.moves in
    later_as the_texts c.args.state.now.state m.swap (g.P.Plant.seen c.args.plant.now) (g.P.Plant.seen c.turned_to_end.new.plant) c.args.journal.now c.turned_to_end.new.journal c.turned_to_end.new.state.state c.answer.result
    (answered_as the_texts c.args.state.now.state m.swap _ _ c.args.journal.now c.turned_to_end.new.journal c.turned_to_end.new.state.state c.in_ok-finished.finished c.answer.result (c.in_ok-finished.ensures.over m.swap m.name m.moves) c.answer.ensures)
    (λ h. absurd (answer_of_memory c.in_ok-finished.finished c.answer.result c.answer.ensures h))

pub returns-in_err-finished-clause-stops : goal.returns-in_err-finished-clause-stops
returns-in_err-finished-clause-stops g c = let p = err_from_is_err_and c.from_residual.result c.from_residual.ensures.1 in inl (p.1 ∙ ap (λ e. Err e) p.2)

pub returns-clause-stops : goal.returns-clause-stops
returns-clause-stops g c =
    let told = answer_stops c.in_ok-finished.finished c.answer.result c.answer.ensures in
    let stops = c.in_ok-finished.ensures.stopped in
    inr ((λ h. stops.0 (told.1 h)), (λ h. told.0 (stops.1 h)))
