use Rattle.std.proofs.Common.{◌≡◌, ◌∷◌, [], ◌++◌, refl, ap, ◌∙◌, append_assoc}
use Rattle.std.proofs.lemmas.Result.{err_from_is_err_and}
use Rattle.plant.specs.Events.{Wrote, Synced}
use Rattle.plant.specs.Told.{with_steps}
use Rattle.journal_disk.specs.Compacting.{Filling, Filled, Raising, InUse, filling, come_steps}
use Rattle.journal_disk.proofs.Chains.{chain, write_ok, sync_ok}
use Rattle.journal_disk.proofs.Leaving.{byte_left, sync_left, sync_ends}
use Rattle.journal_disk.proofs.WriteTextLaws.{all_begins, begun_so}
use Rattle.journal_disk.proofs.compact.raise.Goals as goal

pub returns-in_err-sync-clause-leaves : goal.returns-in_err-sync-clause-leaves
returns-in_err-sync-clause-leaves g c base to_close text pieces are first =
    let p = err_from_is_err_and c.from_residual.result c.from_residual.ensures.1 in
    let t = c.in_err-sync.ensures.trace in
    let told = (g.P.Plant.seen c.args.plant.now).told in
    rw (p.1, p.2) (sync_left c.args.side to_close text base told (g.P.Plant.seen c.sync.new.self).told (Filling pieces) (Filled pieces) (g.P.Plant.seen c.args.plant.now).stopped c.in_err-sync.field-0.0 t.0 (tt, begun_so text pieces c.in_err-sync.field-0.0 (all_begins text pieces are)) (are, tt) first refl t.1 t.2)

pub returns-in_err-write-clause-leaves : goal.returns-in_err-write-clause-leaves
returns-in_err-write-clause-leaves g c base to_close text pieces are first =
    let p = err_from_is_err_and c.from_residual-in_err-write.result c.from_residual-in_err-write.ensures.1 in
    let told = (g.P.Plant.seen c.args.plant.now).told in
    let side = c.args.side in
    let v = c.in_ok-sync.ensures.trace in
    let one : (g.P.Plant.seen c.sync.new.self).told ≡ with_steps base (come_steps side to_close (Filled pieces)) = chain base told (g.P.Plant.seen c.sync.new.self).told (filling side to_close pieces) v.0 _ first v.1 (ap (λ l. filling side to_close pieces ++ l) (sync_ok side _ _ v.0 v.2)) in
    let t = c.in_err-write.ensures.trace in
    rw (p.1, p.2) (byte_left side to_close text base (g.P.Plant.seen c.sync.new.self).told (g.P.Plant.seen c.write.new.self).told (Filled pieces) (λ byte. Raising pieces byte) 0 165 (g.P.Plant.seen c.sync.new.self).stopped c.in_err-write.field-0.0 t.0 (are, tt) (λ _ own. (are, own)) one
    (λ byte. append_assoc (filling side to_close pieces) (Synced side ∷ []) (Wrote side 0 (byte ∷ []) ∷ [])) t.1 t.2)

pub returns-clause-leaves : goal.returns-clause-leaves
returns-clause-leaves g c base to_close text pieces are first =
    let told = (g.P.Plant.seen c.args.plant.now).told in
    let side = c.args.side in
    let v = c.in_ok-sync.ensures.trace in
    let one : (g.P.Plant.seen c.sync.new.self).told ≡ with_steps base (come_steps side to_close (Filled pieces)) = chain base told (g.P.Plant.seen c.sync.new.self).told (filling side to_close pieces) v.0 _ first v.1 (ap (λ l. filling side to_close pieces ++ l) (sync_ok side _ _ v.0 v.2)) in
    let w = c.in_ok-write.ensures.trace in
    let two : (g.P.Plant.seen c.write.new.self).told ≡ with_steps base (come_steps side to_close (Raising pieces 165)) = chain base (g.P.Plant.seen c.sync.new.self).told (g.P.Plant.seen c.write.new.self).told (come_steps side to_close (Filled pieces)) w.0 _ one w.1
    (ap (λ l. come_steps side to_close (Filled pieces) ++ l) (write_ok side 0 (165 ∷ []) _ _ w.0 w.2) ∙ append_assoc (filling side to_close pieces) (Synced side ∷ []) (Wrote side 0 (165 ∷ []) ∷ [])) in
    let t = c.sync-2.ensures.trace in
    sync_ends side to_close text base (g.P.Plant.seen c.write.new.self).told (g.P.Plant.seen c.sync-2.new.self).told (Raising pieces 165) (InUse pieces) (g.P.Plant.seen c.write.new.self).stopped c.sync-2.result t.0 (λ _. (are, λ _. refl)) (λ _. (are, tt)) two
    (append_assoc (filling side to_close pieces) (Synced side ∷ Wrote side 0 (165 ∷ []) ∷ []) (Synced side ∷ [])) t.1 t.2
