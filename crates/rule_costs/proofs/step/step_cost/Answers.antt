use Rattle.std.proofs.Common.{arith}
use Rattle.rule_costs.proofs.CostLaws.{cost_small}
use Rattle.rule_costs.proofs.step.step_cost.Goals as goal

pub overflow_add-result : goal.overflow_add-result
overflow_add-result c =
    let small = cost_small c.args.number c.args.lab.now c.args.wiring.now c.args.from.now c.range-kept.ensures.lab c.requires.sound c.requires.from in
    omega (arith, small, c.requires.cost, c.moved_cost-moved.ensures.after)
