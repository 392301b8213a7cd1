use Rattle.std.proofs.Common.{arith}
use Rattle.cost_rule.proofs.PartLaws.{uses_small}
use Rattle.rule_costs.proofs.CostLaws.{trunk_cost, pack_cost}
use Rattle.rule_costs.proofs.step.moved_cost.Goals as goal

pub overflow_add-result : goal.overflow_add-result
overflow_add-result c =
    let small = uses_small c.args.lab.now c.args.wiring.now c.args.from.now c.range-kept.ensures.lab c.requires.sound c.requires.from in
    omega (arith, small, c.moved_uses-uses.ensures.before, c.moved_soft-soft.ensures.before)

pub overflow_add-result-in-Trunk : goal.overflow_add-result-in-Trunk
overflow_add-result-in-Trunk c =
    let small = uses_small c.args.lab.now c.args.wiring.now c.args.to.now c.range-kept.ensures.lab c.requires.sound c.requires.to in
    omega (arith, small, c.moved_uses-uses.ensures.after, c.moved_soft-soft.ensures.after)

pub returns-in-Trunk-clause-difference : goal.returns-in-Trunk-clause-difference
returns-in-Trunk-clause-difference c =
    let from = trunk_cost c.args.number c.args.lab.now c.args.wiring.now c.args.from.now c.in-Trunk.is in
    let to = trunk_cost c.args.number c.args.lab.now c.args.wiring.now c.args.to.now c.in-Trunk.is in
    omega (arith, from, to, c.moved_uses-uses.ensures.difference, c.moved_soft-soft.ensures.difference)

pub returns-in-Trunk-clause-before : goal.returns-in-Trunk-clause-before
returns-in-Trunk-clause-before c =
    let small = uses_small c.args.lab.now c.args.wiring.now c.args.from.now c.range-kept.ensures.lab c.requires.sound c.requires.from in
    omega (arith, small, c.moved_uses-uses.ensures.before, c.moved_soft-soft.ensures.before)

pub returns-in-Trunk-clause-after : goal.returns-in-Trunk-clause-after
returns-in-Trunk-clause-after c =
    let small = uses_small c.args.lab.now c.args.wiring.now c.args.to.now c.range-kept.ensures.lab c.requires.sound c.requires.to in
    omega (arith, small, c.moved_uses-uses.ensures.after, c.moved_soft-soft.ensures.after)

pub returns-in-Pack-clause-difference : goal.returns-in-Pack-clause-difference
returns-in-Pack-clause-difference c =
    let from = pack_cost c.args.number c.args.lab.now c.args.wiring.now c.args.from.now c.in-Pack.is in
    let to = pack_cost c.args.number c.args.lab.now c.args.wiring.now c.args.to.now c.in-Pack.is in
    omega (arith, from, to, c.moved_nodes-nodes.ensures.difference, c.moved_soft-soft.ensures.difference)
