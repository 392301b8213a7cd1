use Rattle.std.proofs.Common.{sym, ◌∙◌}
use Rattle.lab_base.proofs.Tests.{ok_weaker}
use Rattle.lab_core.specs.Compaction.{IsPacked}
use Rattle.journal_disk.specs.Epochs.{epoch_of}
use Rattle.journal_disk.specs.Standing.{length_of}
use Rattle.lab_core.proofs.Compacting.{is_due, is_needed, is_short, memory_after, stays_after}
use Rattle.lab_core.proofs.compaction.move_journal.Goals as goal

pub returns-then-not-may_move-clause-after : goal.returns-then-not-may_move-clause-after
returns-then-not-may_move-clause-after g c =
    let j = c.args.journal.now in
    stays_after c.args.lab.now.state j (g.P.Plant.seen c.args.plant.now).told tt (is_short (length_of j) (epoch_of j) c.args.lab.now.state (sym c.may_move.ensures ∙ c.if-not-may_move.true))

pub returns-in_default-clause-after : goal.returns-in_default-clause-after
returns-in_default-clause-after g c = memory_after c.args.lab.now.state c.args.journal.now (g.P.Plant.seen c.args.plant.now).told

pub returns-then-not-is_half-clause-after : goal.returns-then-not-is_half-clause-after
returns-then-not-is_half-clause-after g c =
    let j = c.args.journal.now in
    let s = c.args.lab.now.state in
    let are : IsPacked c.in-Ok.packed s = record { bytes = c.in-Ok.ensures.packed; stands = c.in-Ok.ensures.stands } in
    stays_after s j (g.P.Plant.seen c.args.plant.now).told tt (is_needed (length_of j) (epoch_of j) s c.in-Ok.packed are (sym c.is_half.ensures ∙ c.if-not-is_half.true))

pub returns-clause-after : goal.returns-clause-after
returns-clause-after g c =
    let j = c.args.journal.now in
    let s = c.args.lab.now.state in
    let are : IsPacked c.in-Ok.packed s = record { bytes = c.in-Ok.ensures.packed; stands = c.in-Ok.ensures.stands } in
    c.move_over.ensures.after s c.requires.work are (is_due s (length_of j) (epoch_of j) c.in-Ok.packed are (sym c.may_move.ensures ∙ c.if-not-may_move.false) (sym c.is_half.ensures ∙ c.if-not-is_half.false))

pub returns-clause-works : goal.returns-clause-works
returns-clause-works g c =
    let j = c.args.journal.now in
    let s = c.args.lab.now.state in
    let are : IsPacked c.in-Ok.packed s = record { bytes = c.in-Ok.ensures.packed; stands = c.in-Ok.ensures.stands } in
    let due = is_due s (length_of j) (epoch_of j) c.in-Ok.packed are (sym c.may_move.ensures ∙ c.if-not-may_move.false) (sym c.is_half.ensures ∙ c.if-not-is_half.false) in
    ok_weaker c.move_over.result (λ f. f s c.requires.work are due) c.move_over.ensures.works
