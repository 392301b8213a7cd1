use Rattle.std.proofs.Common.{◌≡◌, ◌+◌, ◌∷◌, [], List, ℕ, refl, ap, ◌∙◌}
use Rattle.plant.specs.Told.{with_steps}
use Rattle.std.proofs.lemmas.Result.{err_from_is_err_and}
use Rattle.plant.specs.Events.{Wrote, Synced}
use Rattle.plant.proofs.Traces.{with_steps-nil}
use Rattle.journal_rec.specs.Payloads.{body}
use Rattle.journal_model.specs.Appends.{Nothing, Body, Settled, Gate, added}
use Rattle.journal_disk.proofs.Chains.{chain, write_ok, sync_ok}
use Rattle.journal_disk.proofs.Parts.{sync_part, write_part, first_byte, one_byte, begins_within, gate_within, last_sync}
use Rattle.journal_disk.proofs.journal.Journal.add.Goals as goal

pub write-requires : goal.write-requires
write-requires g c = begins_within (g.P.Plant.seen c.args.plant.now).told c.args.self.now c.requires

pub returns-in_err-write-clause-adds : goal.returns-in_err-write-clause-adds
returns-in_err-write-clause-adds g c r is =
    let p = err_from_is_err_and c.from_residual.result c.from_residual.ensures.1 in
    let t = c.in_err-write.ensures.trace in
    let told = (g.P.Plant.seen c.args.plant.now).told in
    let j = c.args.self.now in
    rw (p.1, p.2) (write_part told told (g.P.Plant.seen c.write.new.self).told j r Nothing (λ other. Body other) (j.gate + 1) c.bytes.result.now (g.P.Plant.seen c.args.plant.now).stopped c.in_err-write.field-0.0 t.0 (with_steps-nil told) (λ other len. refl) t.1 t.2)

pub returns-in_err-sync-clause-adds : goal.returns-in_err-sync-clause-adds
returns-in_err-sync-clause-adds g c r is =
    let p = err_from_is_err_and c.from_residual-in_err-sync.result c.from_residual-in_err-sync.ensures.1 in
    let told = (g.P.Plant.seen c.args.plant.now).told in
    let j = c.args.self.now in
    let w = c.in_ok-write.ensures.trace in
    let bytes : c.bytes.result.now ≡ body r = c.bytes.ensures ∙ is.spelled in
    let one : (g.P.Plant.seen c.write.new.self).told ≡ with_steps told (Wrote j.side (j.gate + 1) (body r) ∷ []) = w.1 ∙ ap (λ l. with_steps told l) (write_ok j.side (j.gate + 1) c.bytes.result.now _ _ w.0 w.2 ∙ ap (λ (l : List ℕ). Wrote j.side (j.gate + 1) l ∷ []) bytes) in
    let t = c.in_err-sync.ensures.trace in
    rw (p.1, p.2) (sync_part told (g.P.Plant.seen c.write.new.self).told (g.P.Plant.seen c.sync.new.self).told j r (Body (body r)) Settled (g.P.Plant.seen c.write.new.self).stopped c.in_err-sync.field-0.0 t.0 one refl t.1 t.2)

pub write-requires-2 : goal.write-requires-2
write-requires-2 g c =
    let told = (g.P.Plant.seen c.args.plant.now).told in
    let j = c.args.self.now in
    let w = c.in_ok-write.ensures.trace in
    let one : (g.P.Plant.seen c.write.new.self).told ≡ with_steps told (Wrote j.side (j.gate + 1) c.bytes.result.now ∷ []) = w.1 ∙ ap (λ l. with_steps told l) (write_ok j.side (j.gate + 1) c.bytes.result.now _ _ w.0 w.2) in
    let v = c.in_ok-sync.ensures.trace in
    let two : (g.P.Plant.seen c.sync.new.self).told ≡ with_steps told (Wrote j.side (j.gate + 1) c.bytes.result.now ∷ Synced j.side ∷ []) = chain told (g.P.Plant.seen c.write.new.self).told (g.P.Plant.seen c.sync.new.self).told _ v.0 _ one v.1 (ap (λ l. Wrote j.side (j.gate + 1) c.bytes.result.now ∷ l) (sync_ok j.side _ _ v.0 v.2)) in
    gate_within told (g.P.Plant.seen c.sync.new.self).told j c.bytes.result.now c.requires two

pub returns-in_err-write-2-clause-adds : goal.returns-in_err-write-2-clause-adds
returns-in_err-write-2-clause-adds g c r is =
    let p = err_from_is_err_and c.from_residual-in_err-write-2.result c.from_residual-in_err-write-2.ensures.1 in
    let told = (g.P.Plant.seen c.args.plant.now).told in
    let j = c.args.self.now in
    let w = c.in_ok-write.ensures.trace in
    let bytes : c.bytes.result.now ≡ body r = c.bytes.ensures ∙ is.spelled in
    let one : (g.P.Plant.seen c.write.new.self).told ≡ with_steps told (Wrote j.side (j.gate + 1) (body r) ∷ []) = w.1 ∙ ap (λ l. with_steps told l) (write_ok j.side (j.gate + 1) c.bytes.result.now _ _ w.0 w.2 ∙ ap (λ (l : List ℕ). Wrote j.side (j.gate + 1) l ∷ []) bytes) in
    let v = c.in_ok-sync.ensures.trace in
    let two : (g.P.Plant.seen c.sync.new.self).told ≡ with_steps told (added j.side j.gate r Settled) = chain told (g.P.Plant.seen c.write.new.self).told (g.P.Plant.seen c.sync.new.self).told _ v.0 _ one v.1 (ap (λ l. Wrote j.side (j.gate + 1) (body r) ∷ l) (sync_ok j.side _ _ v.0 v.2)) in
    let t = c.in_err-write-2.ensures.trace in
    rw (p.1, p.2) (write_part told (g.P.Plant.seen c.sync.new.self).told (g.P.Plant.seen c.write-2.new.self).told j r Settled (λ other. Gate (first_byte other)) j.gate (165 ∷ []) (g.P.Plant.seen c.sync.new.self).stopped c.in_err-write-2.field-0.0 t.0 two
    (λ other len. ap (λ (l : List ℕ). Wrote j.side (j.gate + 1) (body r) ∷ Synced j.side ∷ Wrote j.side j.gate l ∷ []) (one_byte other len)) t.1 t.2)

pub returns-clause-adds : goal.returns-clause-adds
returns-clause-adds g c r is =
    let told = (g.P.Plant.seen c.args.plant.now).told in
    let j = c.args.self.now in
    let w = c.in_ok-write.ensures.trace in
    let bytes : c.bytes.result.now ≡ body r = c.bytes.ensures ∙ is.spelled in
    let one : (g.P.Plant.seen c.write.new.self).told ≡ with_steps told (Wrote j.side (j.gate + 1) (body r) ∷ []) = w.1 ∙ ap (λ l. with_steps told l) (write_ok j.side (j.gate + 1) c.bytes.result.now _ _ w.0 w.2 ∙ ap (λ (l : List ℕ). Wrote j.side (j.gate + 1) l ∷ []) bytes) in
    let v = c.in_ok-sync.ensures.trace in
    let two : (g.P.Plant.seen c.sync.new.self).told ≡ with_steps told (added j.side j.gate r Settled) = chain told (g.P.Plant.seen c.write.new.self).told (g.P.Plant.seen c.sync.new.self).told _ v.0 _ one v.1 (ap (λ l. Wrote j.side (j.gate + 1) (body r) ∷ l) (sync_ok j.side _ _ v.0 v.2)) in
    let x = c.in_ok-write-2.ensures.trace in
    let three : (g.P.Plant.seen c.write-2.new.self).told ≡ with_steps told (added j.side j.gate r (Gate 165)) = chain told (g.P.Plant.seen c.sync.new.self).told (g.P.Plant.seen c.write-2.new.self).told _ x.0 _ two x.1 (ap (λ l. Wrote j.side (j.gate + 1) (body r) ∷ Synced j.side ∷ l) (write_ok j.side j.gate (165 ∷ []) _ _ x.0 x.2)) in
    let t = c.sync-2.ensures.trace in
    last_sync told (g.P.Plant.seen c.write-2.new.self).told (g.P.Plant.seen c.sync-2.new.self).told j r (g.P.Plant.seen c.write-2.new.self).stopped c.sync-2.result t.0 three t.1 t.2
