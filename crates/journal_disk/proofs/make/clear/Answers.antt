use Rattle.std.proofs.Common.{◌≡◌, ◌∷◌, [], List, ℕ, true, ap, ◌∙◌, refl}
use Rattle.std.proofs.lemmas.Result.{err_from_is_err_and}
use Rattle.plant.specs.Events.{Wrote}
use Rattle.plant.specs.Told.{with_steps}
use Rattle.plant.specs.declared.step.Side.TheVariants.{A}
use Rattle.plant.proofs.Traces.{with_steps-nil}
use Rattle.journal_disk.specs.Opening.{Untouched, Closing, Closed, made_steps, IsMade}
use Rattle.journal_disk.proofs.Chains.{broke, write_ok, write_came, sync_reaches, reached}
use Rattle.journal_disk.proofs.Parts.{first_byte, one_byte}
use Rattle.journal_disk.proofs.make.clear.Goals as goal

pub returns-in_err-write-clause-makes : goal.returns-in_err-write-clause-makes
returns-in_err-write-clause-makes g c =
    let p = err_from_is_err_and c.from_residual.result c.from_residual.ensures.1 in
    let t = c.in_err-write.ensures.trace in
    let told = (g.P.Plant.seen c.args.plant.now).told in
    rw (p.1, p.2) (broke (made_steps true) (IsMade true) Closed told (g.P.Plant.seen c.write.new.self).told A c.in_err-write.field-0.0 (write_came (made_steps true) (IsMade true) told told (g.P.Plant.seen c.write.new.self).told A Untouched (λ other. Closing (first_byte other)) 0 (0 ∷ []) (g.P.Plant.seen c.args.plant.now).stopped c.in_err-write.field-0.0 t.0 tt (λ _ _ _. refl) (with_steps-nil told)
    (λ other len. ap (λ (l : List ℕ). Wrote A 0 l ∷ []) (one_byte other len)) t.1 t.2))

pub returns-clause-makes : goal.returns-clause-makes
returns-clause-makes g c =
    let told = (g.P.Plant.seen c.args.plant.now).told in
    let w = c.in_ok-write.ensures.trace in
    let one : (g.P.Plant.seen c.write.new.self).told ≡ with_steps told (Wrote A 0 (0 ∷ []) ∷ []) = w.1 ∙ ap (λ l. with_steps told l) (write_ok A 0 (0 ∷ []) _ _ w.0 w.2) in
    let t = c.sync.ensures.trace in
    sync_reaches (made_steps true) (IsMade true) told (g.P.Plant.seen c.write.new.self).told (g.P.Plant.seen c.sync.new.self).told A (Closing 0) Closed (g.P.Plant.seen c.write.new.self).stopped c.sync.result t.0 refl tt one refl t.1 t.2

pub returns-clause-ok : goal.returns-clause-ok
returns-clause-ok g c = reached (made_steps true) (IsMade true) Closed (g.P.Plant.seen c.args.plant.now).told (g.P.Plant.seen c.sync.new.self).told A c.sync.result (returns-clause-makes g c)
