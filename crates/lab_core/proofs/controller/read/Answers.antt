use Rattle.std.proofs.Common.{Err, refl}
use Rattle.std.proofs.lemmas.Result.{err_from_is_err_and}
use Rattle.lab_core.proofs.Openings.{made_of, failed_opening, made_opening, made_works}
use Rattle.lab_core.proofs.controller.read.Goals as goal

pub returns-in_err-journal-clause-steps : goal.returns-in_err-journal-clause-steps
returns-in_err-journal-clause-steps g c =
    let p = err_from_is_err_and c.from_residual.result c.from_residual.ensures.1 in
    failed_opening c.args.limit (g.P.Plant.seen c.args.plant.now).told (g.P.Plant.seen c.open.new.plant).told c.in_err-journal.field-0.0 c.from_residual.result (rw (p.1, p.2) refl) c.in_err-journal.ensures.moments
    (g.met.P.Plant.reads_possible c.open.new.plant) (λ side at is. c.in_err-journal.ensures.bad side at (λ i. Err (is i)))

pub returns-clause-steps : goal.returns-clause-steps
returns-clause-steps g c =
    let opened = c.in_ok-journal in
    let told = (g.P.Plant.seen c.open.new.plant).told in
    let made = made_of told c.args.limit opened.journal opened.found.items c.deref.result.now c.of_journal.result c.deref.ensures.value opened.ensures.ok opened.ensures.holds c.of_journal.ensures.is in
    made_opening (g.P.Plant.seen c.args.plant.now).told told c.args.limit c.requires.least (opened.journal, opened.found) c.of_journal.result made opened.ensures.moments (g.met.P.Plant.reads_possible c.open.new.plant)

pub returns-clause-works : goal.returns-clause-works
returns-clause-works g c =
    let opened = c.in_ok-journal in
    let told = (g.P.Plant.seen c.open.new.plant).told in
    let made = made_of told c.args.limit opened.journal opened.found.items c.deref.result.now c.of_journal.result c.deref.ensures.value opened.ensures.ok opened.ensures.holds c.of_journal.ensures.is in
    made_works told c.args.limit opened.journal c.of_journal.result made opened.ensures.epoch opened.ensures.limit c.requires.most
