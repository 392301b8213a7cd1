use Rattle.std.proofs.Common.{◌≤◌, List, ℕ, [], length, refl, sym, subst, ◌∙◌}
use Rattle.std.proofs.lemmas.Result.{err_from_is_err_and}
use Rattle.journal_model.specs.Journals.{head, live}
use Rattle.journal_disk.specs.Openings.{IsOpened}
use Rattle.journal_disk.proofs.Opening.{saw_both, syncs_exit, reads_exit, made_exit, new_exit, on_exit, wrong_exit, moments_of}
use Rattle.journal_disk.proofs.Found.{both_read_in, opened_ok, opened_bad, wrong_bad, made_ok}
use Rattle.journal_disk.proofs.Placing.{on_live, has_header}
use Rattle.journal_disk.proofs.Holding.{holds_read}
use Rattle.journal_disk.proofs.EpochLaws.{IsOfEpoch, opened_epoch, made_epoch}
use Rattle.journal_disk.specs.declared.sides.Sides.{Sides}
use Rattle.journal_disk.proofs.journal.Journal.open.Goals as goal

pub opened-requires-clause-header : goal.opened-requires-clause-header
opened-requires-clause-header g c =
    let s = c.in_ok-sides.ensures.sides in
    let whole = c.deref.ensures.value ∙ s.whole c.in-On.side c.in-On.is in
    subst (λ (l : List ℕ). 18 ≤ length l) (sym whole) (has_header s.a s.b c.in-On.side (on_live (live (head s.a) (head s.b)) c.in-On.side (s.live_side ∙ c.in-On.is)))

pub returns-in-On-clause-holds : goal.returns-in-On-clause-holds
returns-in-On-clause-holds g c = holds_read c.in-On.side c.args.limit _ c.opened.result c.opened.ensures.opened

pub returns-in-On-clause-ok : goal.returns-in-On-clause-ok
returns-in-On-clause-ok g c =
    let s = c.in_ok-sides.ensures.sides in
    let read = both_read_in (g.P.Plant.seen c.args.plant.now).told (g.P.Plant.seen c.sync_sides.new.plant).told (g.P.Plant.seen c.read_sides.new.plant).told s.a s.b c.in_ok-sync_sides.ensures.ok c.in_ok-sides.ensures.trace.1 s.reads in
    let whole = s.whole c.in-On.side c.in-On.is in
    let opened = subst (λ (l : List ℕ). IsOpened c.in-On.side c.args.limit l c.opened.result) (c.deref.ensures.value ∙ whole) c.opened.ensures.opened in
    opened_ok (g.P.Plant.seen c.read_sides.new.plant).told s.a s.b c.in-On.side c.args.limit c.opened.result read (s.live_side ∙ c.in-On.is) opened

pub returns-in-On-clause-bad : goal.returns-in-On-clause-bad
returns-in-On-clause-bad g c side at is =
    let s = c.in_ok-sides.ensures.sides in
    let read = both_read_in (g.P.Plant.seen c.args.plant.now).told (g.P.Plant.seen c.sync_sides.new.plant).told (g.P.Plant.seen c.read_sides.new.plant).told s.a s.b c.in_ok-sync_sides.ensures.ok c.in_ok-sides.ensures.trace.1 s.reads in
    let whole = s.whole c.in-On.side c.in-On.is in
    let opened = subst (λ (l : List ℕ). IsOpened c.in-On.side c.args.limit l c.opened.result) (c.deref.ensures.value ∙ whole) c.opened.ensures.opened in
    opened_bad (g.P.Plant.seen c.read_sides.new.plant).told s.a s.b c.in-On.side c.args.limit c.opened.result side at read (s.live_side ∙ c.in-On.is) opened is

pub returns-in-On-clause-epoch : goal.returns-in-On-clause-epoch
returns-in-On-clause-epoch g c =
    let s = c.in_ok-sides.ensures.sides in
    let read = both_read_in (g.P.Plant.seen c.args.plant.now).told (g.P.Plant.seen c.sync_sides.new.plant).told (g.P.Plant.seen c.read_sides.new.plant).told s.a s.b c.in_ok-sync_sides.ensures.ok c.in_ok-sides.ensures.trace.1 s.reads in
    let whole = c.deref.ensures.value ∙ s.whole c.in-On.side c.in-On.is in
    let opened = subst (λ (l : List ℕ). IsOpened c.in-On.side c.args.limit l c.opened.result) whole c.opened.ensures.opened in
    let epoch = subst (λ (l : List ℕ). IsOfEpoch l c.opened.result) whole c.opened.ensures.epoch in
    opened_epoch (g.P.Plant.seen c.read_sides.new.plant).told s.a s.b c.in-On.side c.args.limit c.opened.result read (s.live_side ∙ c.in-On.is) opened epoch

pub returns-in-On-clause-opens : goal.returns-in-On-clause-opens
returns-in-On-clause-opens g c =
    let s = c.in_ok-sides.ensures.sides in
    let saw_so = saw_both (g.P.Plant.seen c.args.plant.now).told (g.P.Plant.seen c.sync_sides.new.plant).told s.a s.b c.in_ok-sync_sides.ensures.ok s.reads in
    let whole = c.deref.ensures.value ∙ s.whole c.in-On.side c.in-On.is in
    let opened = subst (λ (l : List ℕ). IsOpened c.in-On.side c.args.limit l c.opened.result) whole c.opened.ensures.opened in
    on_exit (g.P.Plant.seen c.args.plant.now).told (g.P.Plant.seen c.read_sides.new.plant).told (g.P.Plant.seen c.read_sides.new.plant).told s.a s.b saw_so (c.in_ok-sides.ensures.trace.1 ∙ c.in_ok-sync_sides.ensures.ok) c.in-On.side c.args.limit c.opened.result (s.live_side ∙ c.in-On.is) opened

pub returns-in-On-clause-moments : goal.returns-in-On-clause-moments
returns-in-On-clause-moments g c = moments_of (g.P.Plant.seen c.args.plant.now).told (g.P.Plant.seen c.read_sides.new.plant).told c.opened.result (g.met.P.Plant.reads_possible c.args.plant.now) (returns-in-On-clause-opens g c)

pub returns-clause-bad : goal.returns-clause-bad
returns-clause-bad g c side at is =
    let s = c.in_ok-sides.ensures.sides in
    let read = both_read_in (g.P.Plant.seen c.args.plant.now).told (g.P.Plant.seen c.sync_sides.new.plant).told (g.P.Plant.seen c.read_sides.new.plant).told s.a s.b c.in_ok-sync_sides.ensures.ok c.in_ok-sides.ensures.trace.1 s.reads in
    wrong_bad (g.P.Plant.seen c.read_sides.new.plant).told s.a s.b c.in-Wrong.side side at read (s.live_side ∙ c.in-Wrong.is) is

pub returns-clause-opens : goal.returns-clause-opens
returns-clause-opens g c = wrong_exit (g.P.Plant.seen c.args.plant.now).told (g.P.Plant.seen c.read_sides.new.plant).told c.in-Wrong.side 0 (c.in_ok-sides.ensures.trace.1 ∙ c.in_ok-sync_sides.ensures.ok)

pub returns-clause-moments : goal.returns-clause-moments
returns-clause-moments g c = moments_of (g.P.Plant.seen c.args.plant.now).told (g.P.Plant.seen c.read_sides.new.plant).told _ (g.met.P.Plant.reads_possible c.args.plant.now) (returns-clause-opens g c)

pub returns-in-New-clause-ok : goal.returns-in-New-clause-ok
returns-in-New-clause-ok g c =
    let s = c.in_ok-sides.ensures.sides in
    let read = both_read_in (g.P.Plant.seen c.args.plant.now).told (g.P.Plant.seen c.sync_sides.new.plant).told (g.P.Plant.seen c.read_sides.new.plant).told s.a s.b c.in_ok-sync_sides.ensures.ok c.in_ok-sides.ensures.trace.1 s.reads in
    ([], c.new.ensures.items, made_ok (g.P.Plant.seen c.read_sides.new.plant).told (g.P.Plant.seen c.make.new.plant).told s.a s.b c.in_ok-sides.sides.is_short _ read (s.live_side ∙ c.in-New.is) s.is_short c.in_ok-make-in-New.ensures.ok refl refl)

pub returns-in-New-clause-epoch : goal.returns-in-New-clause-epoch
returns-in-New-clause-epoch g c =
    let s = c.in_ok-sides.ensures.sides in
    let read = both_read_in (g.P.Plant.seen c.args.plant.now).told (g.P.Plant.seen c.sync_sides.new.plant).told (g.P.Plant.seen c.read_sides.new.plant).told s.a s.b c.in_ok-sync_sides.ensures.ok c.in_ok-sides.ensures.trace.1 s.reads in
    made_epoch (g.P.Plant.seen c.read_sides.new.plant).told (g.P.Plant.seen c.make.new.plant).told s.a s.b c.in_ok-sides.sides.is_short _ read (s.live_side ∙ c.in-New.is) s.is_short c.in_ok-make-in-New.ensures.ok refl refl

pub returns-in-New-clause-opens : goal.returns-in-New-clause-opens
returns-in-New-clause-opens g c =
    let s = c.in_ok-sides.ensures.sides in
    let saw_so = saw_both (g.P.Plant.seen c.args.plant.now).told (g.P.Plant.seen c.sync_sides.new.plant).told s.a s.b c.in_ok-sync_sides.ensures.ok s.reads in
    new_exit (g.P.Plant.seen c.args.plant.now).told (g.P.Plant.seen c.read_sides.new.plant).told (g.P.Plant.seen c.make.new.plant).told s.a s.b saw_so (c.in_ok-sides.ensures.trace.1 ∙ c.in_ok-sync_sides.ensures.ok) c.in_ok-sides.sides.is_short _ (s.live_side ∙ c.in-New.is) s.is_short c.in_ok-make-in-New.ensures.ok

pub returns-in-New-clause-moments : goal.returns-in-New-clause-moments
returns-in-New-clause-moments g c = moments_of (g.P.Plant.seen c.args.plant.now).told (g.P.Plant.seen c.make.new.plant).told _ (g.met.P.Plant.reads_possible c.args.plant.now) (returns-in-New-clause-opens g c)

pub returns-in_err-sync_sides-clause-opens : goal.returns-in_err-sync_sides-clause-opens
returns-in_err-sync_sides-clause-opens g c =
    let p = err_from_is_err_and c.from_residual.result c.from_residual.ensures.1 in
    syncs_exit (g.P.Plant.seen c.args.plant.now).told (g.P.Plant.seen c.sync_sides.new.plant).told c.from_residual.result c.in_err-sync_sides.field-0.0 c.in_err-sync_sides.ensures.syncs (rw (p.1, p.2) refl)

pub returns-in_err-sync_sides-clause-moments : goal.returns-in_err-sync_sides-clause-moments
returns-in_err-sync_sides-clause-moments g c = moments_of (g.P.Plant.seen c.args.plant.now).told (g.P.Plant.seen c.sync_sides.new.plant).told c.from_residual.result (g.met.P.Plant.reads_possible c.args.plant.now) (returns-in_err-sync_sides-clause-opens g c)

pub returns-in_err-sides-clause-opens : goal.returns-in_err-sides-clause-opens
returns-in_err-sides-clause-opens g c =
    let p = err_from_is_err_and c.from_residual-in_err-sides.result c.from_residual-in_err-sides.ensures.1 in
    let missed = c.in_err-sides.ensures.trace in
    reads_exit Sides (g.P.Plant.seen c.args.plant.now).told (g.P.Plant.seen c.sync_sides.new.plant).told (g.P.Plant.seen c.read_sides.new.plant).told missed.0 c.from_residual-in_err-sides.result c.in_err-sides.field-0.0 c.in_ok-sync_sides.ensures.ok missed.1 (rw (p.1, p.2) refl)

pub returns-in_err-sides-clause-moments : goal.returns-in_err-sides-clause-moments
returns-in_err-sides-clause-moments g c = moments_of (g.P.Plant.seen c.args.plant.now).told (g.P.Plant.seen c.read_sides.new.plant).told c.from_residual-in_err-sides.result (g.met.P.Plant.reads_possible c.args.plant.now) (returns-in_err-sides-clause-opens g c)

pub returns-in_err-make-in-New-clause-opens : goal.returns-in_err-make-in-New-clause-opens
returns-in_err-make-in-New-clause-opens g c =
    let s = c.in_ok-sides.ensures.sides in
    let saw_so = saw_both (g.P.Plant.seen c.args.plant.now).told (g.P.Plant.seen c.sync_sides.new.plant).told s.a s.b c.in_ok-sync_sides.ensures.ok s.reads in
    let p = err_from_is_err_and c.from_residual-in_err-make-in-New.result c.from_residual-in_err-make-in-New.ensures.1 in
    made_exit (g.P.Plant.seen c.args.plant.now).told (g.P.Plant.seen c.read_sides.new.plant).told (g.P.Plant.seen c.make.new.plant).told s.a s.b saw_so (c.in_ok-sides.ensures.trace.1 ∙ c.in_ok-sync_sides.ensures.ok) c.in_ok-sides.sides.is_short c.from_residual-in_err-make-in-New.result c.in_err-make-in-New.field-0.0 (s.live_side ∙ c.in-New.is) s.is_short c.in_err-make-in-New.ensures.makes (rw (p.1, p.2) refl)

pub returns-in_err-make-in-New-clause-moments : goal.returns-in_err-make-in-New-clause-moments
returns-in_err-make-in-New-clause-moments g c = moments_of (g.P.Plant.seen c.args.plant.now).told (g.P.Plant.seen c.make.new.plant).told c.from_residual-in_err-make-in-New.result (g.met.P.Plant.reads_possible c.args.plant.now) (returns-in_err-make-in-New-clause-opens g c)
