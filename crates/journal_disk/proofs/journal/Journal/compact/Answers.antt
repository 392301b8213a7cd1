use Rattle.std.proofs.Common.{◌+◌, rules, refl}
use Rattle.std.proofs.lemmas.Result.{err_from_is_err_and}
use Rattle.journal_disk.specs.Compacting.{side_text}
use Rattle.journal_disk.specs.Epochs.{epoch_of}
use Rattle.journal_disk.specs.Standing.{side_of}
use Rattle.journal_model.specs.Appends.{other_side}
use Rattle.journal_disk.proofs.Beginnings.{leaves_begun}
use Rattle.journal_disk.proofs.CompactExits.{compacted, shifted, stands_by}
use Rattle.journal_disk.proofs.journal.Journal.compact.Goals as goal

pub returns-in_err-move_over-clause-compacts : goal.returns-in_err-move_over-clause-compacts
returns-in_err-move_over-clause-compacts g c =
    let p = err_from_is_err_and c.from_residual.result c.from_residual.ensures.1 in
    let told = (g.P.Plant.seen c.args.plant.now).told in
    let new = (g.P.Plant.seen c.move_over.new.plant).told in
    let j = c.args.self.now in
    let moves = rw (c.other_side-side.ensures, c.bytes.ensures) at c.in_err-move_over.ensures.moves in
    rw (p.1, p.2) (compacted told new j c.args.packed.now _ moves)

pub returns-in_err-move_over-clause-moments : goal.returns-in_err-move_over-clause-moments
returns-in_err-move_over-clause-moments g c rs ps are =
    shifted (g.P.Plant.seen c.move_over.new.plant).told c.args.self.now c.args.packed.now rs ps are c.requires.epoch (g.P.Plant.seen c.args.plant.now).told c.from_residual.result (returns-in_err-move_over-clause-compacts g c)

pub returns-in_err-move_over-clause-begins : goal.returns-in_err-move_over-clause-begins
returns-in_err-move_over-clause-begins g c =
    let p = err_from_is_err_and c.from_residual.result c.from_residual.ensures.1 in
    let j = c.args.self.now in
    let moves = rw (c.other_side-side.ensures, c.bytes.ensures) at c.in_err-move_over.ensures.moves in
    rw (p.1, p.2) (leaves_begun (g.P.Plant.seen c.args.plant.now).told (g.P.Plant.seen c.move_over.new.plant).told (other_side (side_of j)) (side_text (epoch_of j + 1) c.args.packed.now) _ moves)

pub returns-clause-begins : goal.returns-clause-begins
returns-clause-begins g c =
    let j = c.args.self.now in
    let moves = rw (c.other_side-side.ensures, c.bytes.ensures) at c.in_ok-move_over.ensures.moves in
    leaves_begun (g.P.Plant.seen c.args.plant.now).told (g.P.Plant.seen c.move_over.new.plant).told (other_side (side_of j)) (side_text (epoch_of j + 1) c.args.packed.now) _ moves

both : goal.returns-clause-compacts
both g c =
    let told = (g.P.Plant.seen c.args.plant.now).told in
    let new = (g.P.Plant.seen c.move_over.new.plant).told in
    let j = c.args.self.now in
    let moves = rw (c.other_side-side.ensures, c.bytes.ensures) at c.in_ok-move_over.ensures.moves in
    compacted told new j c.args.packed.now _ moves

pub returns-clause-compacts : goal.returns-clause-compacts
returns-clause-compacts g c = both g c

pub returns-clause-moments : goal.returns-clause-moments
returns-clause-moments g c rs ps are =
    shifted (g.P.Plant.seen c.move_over.new.plant).told c.args.self.now c.args.packed.now rs ps are c.requires.epoch (g.P.Plant.seen c.args.plant.now).told _ (both g c)

pub returns-clause-stands : goal.returns-clause-stands
returns-clause-stands g c rs ps are =
    stands_by (g.P.Plant.seen c.move_over.new.plant).told c.args.self.now c.args.packed.now rs ps are c.requires.epoch (g.P.Plant.seen c.args.plant.now).told _ _ c.other_side-side.ensures refl (search rules) (both g c)
