use Rattle.std.proofs.Common.{◌++◌, ◌∷◌, [], ℕ, List, sym, ◌∙◌, arith}
use Rattle.std.proofs.lemmas.List.FromFn.{map-range_with_len_more}
use Rattle.lab_base.specs.Lists.{listed}
use Rattle.claims.specs.Held.{claim_nodes, owner_of}
use Rattle.lab_judge.proofs.run.owners_of.Goals as goal

pub loop-node-preserved : goal.loop-node-preserved
loop-node-preserved c =
    let f : ℕ → List (List ℕ) = λ n. listed (owner_of claim_nodes c.args.claims.now.entries n) in
    c.in_ok-push.ensures.ok ∙ (λ i. c.loop-node.invariant i ++ c.in_ok-names.ensures i ∷ []) ∙ sym (map-range_with_len_more f 0 c.loop-node.node c.loop-node.node (omega arith))
