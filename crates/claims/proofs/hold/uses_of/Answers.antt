use Rattle.std.proofs.Common.{◌≡◌, ◌++◌, ◌∷◌, [], sym, ◌∙◌}
use Rattle.std.proofs.lemmas.List.FromFn.{map-range_with_len_more}
use Rattle.lab_model.specs.Uses.{use_of}
use Rattle.claims.proofs.hold.uses_of.Goals as goal

pub loop-trunk-preserved : goal.loop-trunk-preserved
loop-trunk-preserved c =
    let f = use_of c.args.lab.now c.args.mapped.now.wiring c.args.mapped.now.mapping in
    let pushed : c.push.new.self ≡ c.loop-trunk.uses ++ c.use_of.result ∷ [] = c.in_ok-push.ensures.ok in
    pushed ∙ (λ i. c.loop-trunk.invariant i ++ c.use_of.ensures i ∷ []) ∙ sym (map-range_with_len_more f 0 c.loop-trunk.trunk c.loop-trunk.trunk (omega Rattle.std.proofs.Common.arith))
