use Rattle.std.proofs.Common.{rules}
use Rattle.std.proofs.lemmas.Result.{err_from_is_err_and}
use Rattle.journal_disk.proofs.Parts.{appends_full, appends_broke, appends_done, moments_from, stands_on}
use Rattle.journal_disk.proofs.EpochLaws.{keeps_epoch}
use Rattle.journal_disk.proofs.journal.Journal.append.Goals as goal

pub returns-then-saturating_add-self-clause-moments : goal.returns-then-saturating_add-self-clause-moments
returns-then-saturating_add-self-clause-moments g c r rs is =
    let told = (g.P.Plant.seen c.args.plant.now).told in
    moments_from told told c.args.self.now rs r _ is.is_record (appends_full told c.args.self.now r _ _)

pub returns-in_err-add-clause-moments : goal.returns-in_err-add-clause-moments
returns-in_err-add-clause-moments g c r rs is =
    let p = err_from_is_err_and c.from_residual.result c.from_residual.ensures.1 in
    let told = (g.P.Plant.seen c.args.plant.now).told in
    let new = (g.P.Plant.seen c.add.new.plant).told in
    rw (p.1, p.2) (moments_from told new c.args.self.now rs r _ is.is_record (appends_broke told new c.args.self.now r c.in_err-add.field-0.0 (c.in_err-add.ensures.adds r is)))

pub returns-clause-moments : goal.returns-clause-moments
returns-clause-moments g c r rs is =
    let told = (g.P.Plant.seen c.args.plant.now).told in
    let new = (g.P.Plant.seen c.add.new.plant).told in
    moments_from told new c.args.self.now rs r _ is.is_record (appends_done told new c.args.self.now r _ _ (c.in_ok-add.ensures.adds r is))

pub returns-clause-stands : goal.returns-clause-stands
returns-clause-stands g c =
    let told = (g.P.Plant.seen c.args.plant.now).told in
    let new = (g.P.Plant.seen c.add.new.plant).told in
    stands_on told new c.args.self.now _ c.args.encoded.now _ (λ r is. appends_done told new c.args.self.now r _ _ (c.in_ok-add.ensures.adds r is)) (search rules) (search rules)

pub returns-clause-of_epoch : goal.returns-clause-of_epoch
returns-clause-of_epoch g c =
    let told = (g.P.Plant.seen c.args.plant.now).told in
    let new = (g.P.Plant.seen c.add.new.plant).told in
    keeps_epoch told new c.args.self.now _ c.args.encoded.now _ (λ r is. appends_done told new c.args.self.now r _ _ (c.in_ok-add.ensures.adds r is)) (search rules) (search rules)
