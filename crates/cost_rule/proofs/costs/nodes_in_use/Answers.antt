use Rattle.std.proofs.Common.{◌≡◌, ◌∷◌, ◌∙◌, not, rules, arith, length, ap}
use Rattle.cost_rule.proofs.KindSteps.{nodes_step, byte_is, byte_one}
use Rattle.cost_rule.proofs.costs.nodes_in_use.Goals as goal

pub loop-first-preserved : goal.loop-first-preserved
loop-first-preserved c =
    let is : c.loop-first.rest.now ≡ c.in-Some.first.now ∷ c.in-Some.others.now = search rules in
    let step = nodes_step c.in-Some.first.now _ _ _ c.from-nodes.result is c.is_on.ensures (c.from-nodes.ensures ∙ byte_is (not c.is_on.result)) in
    record { so_far = omega (arith, step, c.loop-first.invariant.so_far); few = omega (arith, ap length is, c.from-nodes.ensures, byte_one (not c.is_on.result), c.loop-first.invariant.few) }
