use Rattle.std.proofs.Common.{◌≡◌, ◌∷◌, [], ◌++◌, refl, ap, append_assoc}
use Rattle.std.proofs.lemmas.Result.{err_from_is_err_and}
use Rattle.plant.specs.Events.{Cut, Synced}
use Rattle.plant.specs.Told.{with_steps}
use Rattle.journal_disk.specs.Compacting.{Closed, Cutting, Emptied, shutting, come_steps}
use Rattle.journal_disk.proofs.Chains.{chain}
use Rattle.journal_disk.proofs.Leaving.{cut_ok, cut_left, sync_ends}
use Rattle.journal_disk.proofs.emptying.shorten.Goals as goal

pub returns-in_err-cut-clause-leaves : goal.returns-in_err-cut-clause-leaves
returns-in_err-cut-clause-leaves g c base to_close text first =
    let p = err_from_is_err_and c.from_residual.result c.from_residual.ensures.1 in
    let t = c.in_err-cut.ensures.trace in
    let told = (g.P.Plant.seen c.args.plant.now).told in
    rw (p.1, p.2) (cut_left c.args.side to_close text base told (g.P.Plant.seen c.cut.new.self).told Closed Cutting 1 (g.P.Plant.seen c.args.plant.now).stopped c.in_err-cut.field-0.0 t.0 (tt, tt) (tt, tt) first refl t.1 t.2)

pub returns-clause-leaves : goal.returns-clause-leaves
returns-clause-leaves g c base to_close text first =
    let told = (g.P.Plant.seen c.args.plant.now).told in
    let side = c.args.side in
    let w = c.in_ok-cut.ensures.trace in
    let one : (g.P.Plant.seen c.cut.new.self).told ≡ with_steps base (come_steps side to_close Cutting) = chain base told (g.P.Plant.seen c.cut.new.self).told (shutting side to_close) w.0 (come_steps side to_close Cutting) first w.1 (ap (λ l. shutting side to_close ++ l) (cut_ok side 1 _ _ w.0 w.2)) in
    let t = c.sync.ensures.trace in
    sync_ends side to_close text base (g.P.Plant.seen c.cut.new.self).told (g.P.Plant.seen c.sync.new.self).told Cutting Emptied (g.P.Plant.seen c.cut.new.self).stopped c.sync.result t.0 (λ _. (tt, tt)) (λ _. (tt, tt)) one
    (append_assoc (shutting side to_close) (Cut side 1 ∷ []) (Synced side ∷ [])) t.1 t.2
