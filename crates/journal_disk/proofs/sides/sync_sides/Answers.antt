use Rattle.std.proofs.Common.{◌≡◌, ◌∷◌, [], refl, ap, ◌∙◌}
use Rattle.std.proofs.lemmas.Result.{err_from_is_err_and}
use Rattle.plant.specs.Events.{Synced}
use Rattle.plant.specs.Told.{with_steps}
use Rattle.plant.specs.declared.step.Side.TheVariants.{A, B}
use Rattle.plant.proofs.Traces.{with_steps-nil}
use Rattle.journal_disk.specs.Opening.{AtStart, OneSynced, BothSynced, far_steps, IsSync}
use Rattle.journal_disk.proofs.Chains.{broke, sync_ok, sync_came, sync_reaches}
use Rattle.journal_disk.proofs.Opening.{both_reached}
use Rattle.journal_disk.proofs.sides.sync_sides.Goals as goal

pub returns-in_err-sync-clause-syncs : goal.returns-in_err-sync-clause-syncs
returns-in_err-sync-clause-syncs g c =
    let p = err_from_is_err_and c.from_residual.result c.from_residual.ensures.1 in
    let told = (g.P.Plant.seen c.args.plant.now).told in
    let t = c.in_err-sync.ensures.trace in
    rw (p.1, p.2) (A, broke far_steps IsSync BothSynced told (g.P.Plant.seen c.sync.new.self).told A c.in_err-sync.field-0.0 (sync_came far_steps IsSync told told (g.P.Plant.seen c.sync.new.self).told A AtStart OneSynced (g.P.Plant.seen c.args.plant.now).stopped c.in_err-sync.field-0.0 t.0 tt tt (with_steps-nil told) refl t.1 t.2))

pub returns-clause-syncs : goal.returns-clause-syncs
returns-clause-syncs g c =
    let told = (g.P.Plant.seen c.args.plant.now).told in
    let v = c.in_ok-sync.ensures.trace in
    let one : (g.P.Plant.seen c.sync.new.self).told ≡ with_steps told (Synced A ∷ []) = v.1 ∙ ap (λ l. with_steps told l) (sync_ok A _ _ v.0 v.2) in
    let t = c.sync-2.ensures.trace in
    (B, sync_reaches far_steps IsSync told (g.P.Plant.seen c.sync.new.self).told (g.P.Plant.seen c.sync-2.new.self).told B OneSynced BothSynced (g.P.Plant.seen c.sync.new.self).stopped c.sync-2.result t.0 tt tt one refl t.1 t.2)

pub returns-clause-ok : goal.returns-clause-ok
returns-clause-ok g c = both_reached (g.P.Plant.seen c.args.plant.now).told (g.P.Plant.seen c.sync-2.new.self).told c.sync-2.result (returns-clause-syncs g c)
