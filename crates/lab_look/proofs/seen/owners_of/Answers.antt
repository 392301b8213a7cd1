use Rattle.std.proofs.Common.{◌≡◌, ◌+◌, ◌++◌, ◌∷◌, [], ℕ, length, ap, sym, ◌∙◌, arith}
use Rattle.std.proofs.lemmas.List.FromFn.{map-range_with_len_more, length-map-range_with_len}
use Rattle.lab_look.specs.Seats.{owner}
use Rattle.lab_look.specs.Seen.{owner_at}
use Rattle.lab_look.proofs.seen.owners_of.Goals as goal

pub loop-number-preserved : goal.loop-number-preserved
loop-number-preserved c =
    let es = c.args.state.now.state.experiments in
    let number = c.loop-number.number in
    let pushed : c.push.new.self ≡ c.loop-number.owners ++ c.owner_of.result ∷ [] = c.in_ok-push.ensures.ok in
    let own : c.owner_of.result ≡ owner_at c.args.lab.now es number = c.owner_of.ensures ∙ ap (λ (r : ℕ × ℕ). owner es (r.0 + number)) c.range-low.ensures.range in
    pushed ∙ (λ i. c.loop-number.invariant i ++ own i ∷ []) ∙ sym (map-range_with_len_more (owner_at c.args.lab.now es) 0 number number (omega arith))

pub returns-clause-few : goal.returns-clause-few
returns-clause-few c =
    let f = owner_at c.args.lab.now c.args.state.now.state.experiments in
    omega (arith, ap length c.loop-number.invariant, length-map-range_with_len f 0 c.loop-number.number, c.loop-number.auto.number-end)
