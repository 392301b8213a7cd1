use Rattle.std.proofs.Common.{◌∙◌, ◌++◌, ◌∷◌, []}
use Rattle.std.proofs.lemmas.List.{replicate_more}
use Rattle.swap_plan.proofs.tables.no_pipes.Goals as goal

pub loop-node-preserved : goal.loop-node-preserved
loop-node-preserved c = c.in_ok-push.ensures.items ∙ (λ j. c.loop-node.invariant j ++ c.new.ensures j ∷ []) ∙ replicate_more c.loop-node._node []
