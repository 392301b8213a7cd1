use Rattle.std.proofs.Common.{◌≡◌, ◌++◌, ◌∷◌, [], sym, ◌∙◌, arith}
use Rattle.std.proofs.lemmas.List.FromFn.{map-range_with_len_more}
use Rattle.lab_look.specs.Seen.{trunk_of}
use Rattle.lab_look.proofs.trunks.trunks_of.Goals as goal

pub loop-number-preserved : goal.loop-number-preserved
loop-number-preserved c =
    let f = trunk_of c.args.lab.now c.args.state.now.state.experiments in
    let pushed : c.push.new.self ≡ c.loop-number.trunks ++ c.trunk_of.result ∷ [] = c.in_ok-push.ensures.ok in
    pushed ∙ (λ i. c.loop-number.invariant i ++ c.trunk_of.ensures i ∷ []) ∙ sym (map-range_with_len_more f 0 c.loop-number.number c.loop-number.number (omega arith))
