use Rattle.std.proofs.Common.{◌≡◌, ◌∷◌, [], true, refl, ap, ◌∙◌}
use Rattle.std.proofs.lemmas.Result.{err_from_is_err_and}
use Rattle.plant.specs.Events.{Wrote}
use Rattle.plant.specs.Told.{with_steps}
use Rattle.plant.proofs.Traces.{with_steps-nil}
use Rattle.journal_disk.specs.Compacting.{Untouched, Closing, Closed}
use Rattle.journal_disk.proofs.Chains.{write_ok}
use Rattle.journal_disk.proofs.Leaving.{byte_left, sync_ends}
use Rattle.journal_disk.proofs.emptying.shut.Goals as goal

pub returns-in_err-write-clause-leaves : goal.returns-in_err-write-clause-leaves
returns-in_err-write-clause-leaves g c text =
    let p = err_from_is_err_and c.from_residual.result c.from_residual.ensures.1 in
    let t = c.in_err-write.ensures.trace in
    let told = (g.P.Plant.seen c.args.plant.now).told in
    rw (p.1, p.2) (byte_left c.args.side true text told told (g.P.Plant.seen c.write.new.self).told Untouched (λ byte. Closing byte) 0 0 (g.P.Plant.seen c.args.plant.now).stopped c.in_err-write.field-0.0 t.0 (tt, tt) (λ _ own. (refl, own)) (with_steps-nil told) (λ byte. refl) t.1 t.2)

pub returns-clause-leaves : goal.returns-clause-leaves
returns-clause-leaves g c text =
    let told = (g.P.Plant.seen c.args.plant.now).told in
    let w = c.in_ok-write.ensures.trace in
    let one : (g.P.Plant.seen c.write.new.self).told ≡ with_steps told (Wrote c.args.side 0 (0 ∷ []) ∷ []) = w.1 ∙ ap (λ l. with_steps told l) (write_ok c.args.side 0 (0 ∷ []) _ _ w.0 w.2) in
    let t = c.sync.ensures.trace in
    sync_ends c.args.side true text told (g.P.Plant.seen c.write.new.self).told (g.P.Plant.seen c.sync.new.self).told (Closing 0) Closed (g.P.Plant.seen c.write.new.self).stopped c.sync.result t.0 (λ _. (refl, λ _. refl)) (λ _. (tt, tt)) one refl t.1 t.2
