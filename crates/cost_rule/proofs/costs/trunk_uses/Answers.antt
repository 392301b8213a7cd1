use Rattle.std.proofs.Common.{length, ap, arith}
use Rattle.phys_lab.proofs.TrunkCount.{few_trunks}
use Rattle.cost_rule.proofs.costs.trunk_uses.Goals as goal

pub overflow_add-total : goal.overflow_add-total
overflow_add-total c = omega (arith, few_trunks c.args.lab.now c.range-kept.ensures.lab, ap length c.trunks-trunk-end.ensures.list)

pub returns-clause-bound : goal.returns-clause-bound
returns-clause-bound c = omega (arith, few_trunks c.args.lab.now c.range-kept.ensures.lab, ap length c.trunks-trunk-end.ensures.list)
