use Rattle.std.proofs.Common.{length, ap, arith}
use Rattle.phys_lab.specs.declared.parts.Node.{Node}
use Rattle.cost_rule.proofs.LimitLaws.{few_features}
use Rattle.cost_rule.proofs.soft.soft_at.Goals as goal

pub missed-requires-2 : goal.missed-requires-2
missed-requires-2 c =
    omega (arith, ap length c.as_slice-features.ensures, ap (λ (n : Node). length n.features) c.node_at.ensures, few_features c.args.lab.now c.args.node c.range-kept.ensures.lab c.requires.node)
