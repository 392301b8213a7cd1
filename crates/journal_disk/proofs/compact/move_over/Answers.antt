use Rattle.std.proofs.Common.{◌≡◌, Option, subst, ap, ◌∙◌}
use Rattle.std.proofs.lemmas.Result.{err_from_is_err_and}
use Rattle.plant.specs.Told.{Told, with_steps}
use Rattle.journal_disk.specs.Compacting.{side_text, emptying, Leaves}
use Rattle.journal_disk.proofs.Leaving.{missed_last, read_only, pour_left, unread, moves_left, filled_ok, moves_end}
use Rattle.journal_disk.proofs.compact.move_over.Goals as goal

pub returns-in_err-to_close-clause-moves : goal.returns-in_err-to_close-clause-moves
returns-in_err-to_close-clause-moves g c =
    let p = err_from_is_err_and c.from_residual.result c.from_residual.ensures.1 in
    let fault = c.in_err-to_close.field-0.0 in
    rw (p.1, p.2) (unread c.args.side (side_text c.args.epoch c.args.records.now) (g.P.Plant.seen c.args.plant.now).told (g.P.Plant.seen c.lacks_closed_gate.new.plant).told fault _ c.in_err-to_close.ensures.trace (missed_last c.args.side fault))

pub returns-in_err-empty-clause-moves : goal.returns-in_err-empty-clause-moves
returns-in_err-empty-clause-moves g c =
    let p = err_from_is_err_and c.from_residual-in_err-empty.result c.from_residual-in_err-empty.ensures.1 in
    let told = (g.P.Plant.seen c.args.plant.now).told in
    let side = c.args.side in
    let text = side_text c.args.epoch c.args.records.now in
    let to_close = c.in_ok-to_close.to_close in
    let fault = c.in_err-empty.field-0.0 in
    let same = read_only side to_close told (g.P.Plant.seen c.lacks_closed_gate.new.plant).told c.in_ok-to_close.ensures.trace in
    rw (p.1, p.2) (moves_left side text told (g.P.Plant.seen c.empty.new.plant).told to_close fault c.in_ok-to_close.ensures.to_close
    (subst (λ (o : Option Told). Leaves side to_close text o (g.P.Plant.seen c.empty.new.plant).told fault) same (c.in_err-empty.ensures.leaves text)))

pub returns-in_err-write_text-clause-moves : goal.returns-in_err-write_text-clause-moves
returns-in_err-write_text-clause-moves g c =
    let p = err_from_is_err_and c.from_residual-in_err-write_text.result c.from_residual-in_err-write_text.ensures.1 in
    let told = (g.P.Plant.seen c.args.plant.now).told in
    let side = c.args.side in
    let text = side_text c.args.epoch c.args.records.now in
    let to_close = c.in_ok-to_close.to_close in
    let fault = c.in_err-write_text.field-0.0 in
    let same = read_only side to_close told (g.P.Plant.seen c.lacks_closed_gate.new.plant).told c.in_ok-to_close.ensures.trace in
    let one : (g.P.Plant.seen c.empty.new.plant).told ≡ with_steps told (emptying side to_close) = c.in_ok-empty.ensures.ok ∙ ap (λ (o : Option Told). with_steps o (emptying side to_close)) same in
    rw (p.1, p.2) (moves_left side text told (g.P.Plant.seen c.write_text.new.plant).told to_close fault c.in_ok-to_close.ensures.to_close
    (pour_left side to_close text told (g.P.Plant.seen c.empty.new.plant).told (g.P.Plant.seen c.write_text.new.plant).told fault one c.in_err-write_text.ensures.writes_text))

pub returns-clause-moves : goal.returns-clause-moves
returns-clause-moves g c =
    let told = (g.P.Plant.seen c.args.plant.now).told in
    let side = c.args.side in
    let text = side_text c.args.epoch c.args.records.now in
    let to_close = c.in_ok-to_close.to_close in
    let same = read_only side to_close told (g.P.Plant.seen c.lacks_closed_gate.new.plant).told c.in_ok-to_close.ensures.trace in
    let one : (g.P.Plant.seen c.empty.new.plant).told ≡ with_steps told (emptying side to_close) = c.in_ok-empty.ensures.ok ∙ ap (λ (o : Option Told). with_steps o (emptying side to_close)) same in
    let writes_text = c.in_ok-write_text.ensures.writes_text in
    let two = filled_ok side to_close text told (g.P.Plant.seen c.empty.new.plant).told (g.P.Plant.seen c.write_text.new.plant).told _ one writes_text in
    moves_end side text told (g.P.Plant.seen c.write_text.new.plant).told (g.P.Plant.seen c.raise.new.plant).told to_close writes_text.pieces c.raise.result c.in_ok-to_close.ensures.to_close writes_text.ends.0 two c.raise.ensures.ok
    (c.raise.ensures.leaves told to_close text writes_text.pieces writes_text.ends.0 two)
