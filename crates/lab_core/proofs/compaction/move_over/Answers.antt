use Rattle.lab_core.proofs.Compacting.{halted_after, missed_after, moved_after, moved_works}
use Rattle.lab_core.proofs.compaction.move_over.Goals as goal

pub returns-in-Ok-clause-after : goal.returns-in-Ok-clause-after
returns-in-Ok-clause-after g c = λ s work are due.
    let e = c.in-Ok.ensures in
    moved_after s c.args.journal.now (g.P.Plant.seen c.args.plant.now).told (g.P.Plant.seen c.compact.new.plant).told work c.args.packed.now are due c.compact.new.self e.length e.side e.epoch e.stands tt tt e.compacts e.moments

pub returns-in-Ok-clause-works : goal.returns-in-Ok-clause-works
returns-in-Ok-clause-works g c = λ s work are due.
    let e = c.in-Ok.ensures in
    moved_works s c.args.journal.now (g.P.Plant.seen c.args.plant.now).told (g.P.Plant.seen c.compact.new.plant).told work c.args.packed.now are due c.compact.new.self e.length e.side e.epoch e.stands tt e.compacts e.limit

pub returns-in-Err-Plant-clause-after : goal.returns-in-Err-Plant-clause-after
returns-in-Err-Plant-clause-after g c = λ s work are due.
    let e = rw c.in-Err-Plant.field-0-is at c.in-Err-Plant.ensures in
    missed_after s c.args.journal.now (g.P.Plant.seen c.args.plant.now).told (g.P.Plant.seen c.compact.new.plant).told work c.args.packed.now are due e.compacts e.moments

pub returns-in-Err-Stopped-clause-after : goal.returns-in-Err-Stopped-clause-after
returns-in-Err-Stopped-clause-after g c = λ s work are due.
    let e = rw c.in-Err-Stopped.field-0-is at c.in-Err-Stopped.ensures in
    halted_after s c.args.journal.now (g.P.Plant.seen c.args.plant.now).told (g.P.Plant.seen c.compact.new.plant).told work c.args.packed.now are due e.compacts e.moments
