use Rattle.std.proofs.Common.{◌≡◌, ◌+◌, ◌∷◌, [], List, ℕ, take, refl, ap, subst, ◌∙◌}
use Rattle.std.proofs.lemmas.Result.{err_from_is_err_and}
use Rattle.plant.specs.Events.{Wrote}
use Rattle.plant.specs.Told.{with_steps}
use Rattle.plant.proofs.Traces.{with_steps-nil}
use Rattle.journal_disk.specs.Compacting.{side_text, WritesText}
use Rattle.journal_disk.proofs.Chains.{write_ok}
use Rattle.journal_disk.proofs.WriteTextLaws.{head_begins, pours_left, pours_joined, rest_within}
use Rattle.journal_disk.proofs.writing.write_text.Goals as goal

pub returns-in_err-write_head-clause-writes_text : goal.returns-in_err-write_head-clause-writes_text
returns-in_err-write_head-clause-writes_text g c =
    let p = err_from_is_err_and c.from_residual.result c.from_residual.ensures.1 in
    let t = c.in_err-write_head.ensures.trace in
    let told = (g.P.Plant.seen c.args.plant.now).told in
    rw (p.1, p.2) (pours_left c.args.side 1 1 (side_text c.args.epoch c.args.records.now) told told (g.P.Plant.seen c.write_head.new.plant).told [] (side_text c.args.epoch c.split_at.result.0.now) (g.P.Plant.seen c.args.plant.now).stopped c.in_err-write_head.field-0.0 t.0 (side_text c.args.epoch c.args.records.now, refl) (head_begins c.args.epoch c.first_of-size.result c.args.records.now c.split_at.result.0.now c.split_at.ensures.front) (with_steps-nil told) refl t.1 t.2)

pub write_rest-requires-clause-within : goal.write_rest-requires-clause-within
write_rest-requires-clause-within g c =
    let told = (g.P.Plant.seen c.args.plant.now).told in
    let n = c.first_of-size.result in
    let w = c.in_ok-write_head.ensures.trace in
    let one : (g.P.Plant.seen c.write_head.new.plant).told ≡ with_steps told (Wrote c.args.side 1 (side_text c.args.epoch (take n c.args.records.now)) ∷ []) =
    w.1 ∙ ap (λ l. with_steps told l) (write_ok c.args.side 1 (side_text c.args.epoch c.split_at.result.0.now) _ _ w.0 w.2 ∙ ap (λ (l : List ℕ). Wrote c.args.side 1 (side_text c.args.epoch l) ∷ []) c.split_at.ensures.front) in
    rest_within c.args.side c.args.epoch n c.args.records.now told (g.P.Plant.seen c.write_head.new.plant).told c.requires.within one c.first_of-size.ensures.within

pub returns-clause-writes_text : goal.returns-clause-writes_text
returns-clause-writes_text g c =
    let told = (g.P.Plant.seen c.args.plant.now).told in
    let n = c.first_of-size.result in
    let w = c.in_ok-write_head.ensures.trace in
    let one : (g.P.Plant.seen c.write_head.new.plant).told ≡ with_steps told (Wrote c.args.side 1 (side_text c.args.epoch (take n c.args.records.now)) ∷ []) =
    w.1 ∙ ap (λ l. with_steps told l) (write_ok c.args.side 1 (side_text c.args.epoch c.split_at.result.0.now) _ _ w.0 w.2 ∙ ap (λ (l : List ℕ). Wrote c.args.side 1 (side_text c.args.epoch l) ∷ []) c.split_at.ensures.front) in
    pours_joined c.args.side c.args.epoch n c.args.records.now told (g.P.Plant.seen c.write_head.new.plant).told one c.first_of-size.ensures.within c.first_of-size.ensures.short c.first_of-size.ensures.full (g.P.Plant.seen c.write_rest.new.plant).told (17 + n) c.write_rest.result refl
    (subst (λ (l : List ℕ). WritesText c.args.side (17 + n) l (g.P.Plant.seen c.write_head.new.plant).told (g.P.Plant.seen c.write_rest.new.plant).told c.write_rest.result) c.split_at.ensures.back c.write_rest.ensures.writes_text)
