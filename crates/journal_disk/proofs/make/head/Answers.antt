use Rattle.std.proofs.Common.{◌≡◌, ◌∷◌, [], List, ℕ, false, refl, ap, ◌∙◌}
use Rattle.std.proofs.lemmas.Result.{err_from_is_err_and}
use Rattle.plant.specs.Events.{Wrote, Synced}
use Rattle.plant.specs.Told.{with_steps}
use Rattle.plant.specs.declared.step.Side.TheVariants.{A}
use Rattle.plant.proofs.Traces.{with_steps-nil}
use Rattle.journal_model.specs.Making.{made_header}
use Rattle.journal_disk.specs.Opening.{Untouched, Heading, WithHeader, Raising, InUse, made_steps, IsMade}
use Rattle.journal_disk.proofs.Chains.{chain, broke, write_ok, sync_ok, sync_came, write_came, sync_reaches, reached}
use Rattle.journal_disk.proofs.Parts.{first_byte, one_byte}
use Rattle.journal_disk.proofs.make.head.Goals as goal

pub returns-in_err-write-clause-makes : goal.returns-in_err-write-clause-makes
returns-in_err-write-clause-makes g c =
    let p = err_from_is_err_and c.from_residual.result c.from_residual.ensures.1 in
    let t = c.in_err-write.ensures.trace in
    let told = (g.P.Plant.seen c.args.plant.now).told in
    rw (p.1, p.2) (broke (made_steps false) (IsMade false) InUse told (g.P.Plant.seen c.write.new.self).told A c.in_err-write.field-0.0 (write_came (made_steps false) (IsMade false) told told (g.P.Plant.seen c.write.new.self).told A Untouched (λ other. Heading other) 1 made_header (g.P.Plant.seen c.args.plant.now).stopped c.in_err-write.field-0.0 t.0 tt (λ _ _ _. tt) (with_steps-nil told) (λ other len. refl) t.1 t.2))

pub returns-in_err-sync-clause-makes : goal.returns-in_err-sync-clause-makes
returns-in_err-sync-clause-makes g c =
    let p = err_from_is_err_and c.from_residual-in_err-sync.result c.from_residual-in_err-sync.ensures.1 in
    let told = (g.P.Plant.seen c.args.plant.now).told in
    let w = c.in_ok-write.ensures.trace in
    let one : (g.P.Plant.seen c.write.new.self).told ≡ with_steps told (Wrote A 1 made_header ∷ []) = w.1 ∙ ap (λ l. with_steps told l) (write_ok A 1 made_header _ _ w.0 w.2) in
    let t = c.in_err-sync.ensures.trace in
    rw (p.1, p.2) (broke (made_steps false) (IsMade false) InUse told (g.P.Plant.seen c.sync.new.self).told A c.in_err-sync.field-0.0 (sync_came (made_steps false) (IsMade false) told (g.P.Plant.seen c.write.new.self).told (g.P.Plant.seen c.sync.new.self).told A (Heading made_header) WithHeader (g.P.Plant.seen c.write.new.self).stopped c.in_err-sync.field-0.0 t.0 tt tt one refl t.1 t.2))

pub returns-in_err-write-2-clause-makes : goal.returns-in_err-write-2-clause-makes
returns-in_err-write-2-clause-makes g c =
    let p = err_from_is_err_and c.from_residual-in_err-write-2.result c.from_residual-in_err-write-2.ensures.1 in
    let told = (g.P.Plant.seen c.args.plant.now).told in
    let w = c.in_ok-write.ensures.trace in
    let one : (g.P.Plant.seen c.write.new.self).told ≡ with_steps told (Wrote A 1 made_header ∷ []) = w.1 ∙ ap (λ l. with_steps told l) (write_ok A 1 made_header _ _ w.0 w.2) in
    let v = c.in_ok-sync.ensures.trace in
    let two : (g.P.Plant.seen c.sync.new.self).told ≡ with_steps told (Wrote A 1 made_header ∷ Synced A ∷ []) = chain told (g.P.Plant.seen c.write.new.self).told (g.P.Plant.seen c.sync.new.self).told _ v.0 _ one v.1 (ap (λ l. Wrote A 1 made_header ∷ l) (sync_ok A _ _ v.0 v.2)) in
    let t = c.in_err-write-2.ensures.trace in
    rw (p.1, p.2) (broke (made_steps false) (IsMade false) InUse told (g.P.Plant.seen c.write-2.new.self).told A c.in_err-write-2.field-0.0 (write_came (made_steps false) (IsMade false) told (g.P.Plant.seen c.sync.new.self).told (g.P.Plant.seen c.write-2.new.self).told A WithHeader (λ other. Raising (first_byte other)) 0 (165 ∷ []) (g.P.Plant.seen c.sync.new.self).stopped c.in_err-write-2.field-0.0 t.0 tt (λ _ _ _. tt) two
    (λ other len. ap (λ (l : List ℕ). Wrote A 1 made_header ∷ Synced A ∷ Wrote A 0 l ∷ []) (one_byte other len)) t.1 t.2))

pub returns-clause-makes : goal.returns-clause-makes
returns-clause-makes g c =
    let told = (g.P.Plant.seen c.args.plant.now).told in
    let w = c.in_ok-write.ensures.trace in
    let one : (g.P.Plant.seen c.write.new.self).told ≡ with_steps told (Wrote A 1 made_header ∷ []) = w.1 ∙ ap (λ l. with_steps told l) (write_ok A 1 made_header _ _ w.0 w.2) in
    let v = c.in_ok-sync.ensures.trace in
    let two : (g.P.Plant.seen c.sync.new.self).told ≡ with_steps told (Wrote A 1 made_header ∷ Synced A ∷ []) = chain told (g.P.Plant.seen c.write.new.self).told (g.P.Plant.seen c.sync.new.self).told _ v.0 _ one v.1 (ap (λ l. Wrote A 1 made_header ∷ l) (sync_ok A _ _ v.0 v.2)) in
    let x = c.in_ok-write-2.ensures.trace in
    let three : (g.P.Plant.seen c.write-2.new.self).told ≡ with_steps told (Wrote A 1 made_header ∷ Synced A ∷ Wrote A 0 (165 ∷ []) ∷ []) = chain told (g.P.Plant.seen c.sync.new.self).told (g.P.Plant.seen c.write-2.new.self).told _ x.0 _ two x.1 (ap (λ l. Wrote A 1 made_header ∷ Synced A ∷ l) (write_ok A 0 (165 ∷ []) _ _ x.0 x.2)) in
    let t = c.sync-2.ensures.trace in
    sync_reaches (made_steps false) (IsMade false) told (g.P.Plant.seen c.write-2.new.self).told (g.P.Plant.seen c.sync-2.new.self).told A (Raising 165) InUse (g.P.Plant.seen c.write-2.new.self).stopped c.sync-2.result t.0 tt tt three refl t.1 t.2

pub returns-clause-ok : goal.returns-clause-ok
returns-clause-ok g c = reached (made_steps false) (IsMade false) InUse (g.P.Plant.seen c.args.plant.now).told (g.P.Plant.seen c.sync-2.new.self).told A c.sync-2.result (returns-clause-makes g c)
