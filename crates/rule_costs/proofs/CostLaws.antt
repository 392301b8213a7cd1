-- The costs by their numbers, which are small.
use Rattle.std.proofs.Common.{◌≡◌, ◌≤◌, ◌+◌, ◌*◌, ap, arith}
use Rattle.phys_lab.specs.Labs.{Lab}
use Rattle.phys_lab.specs.Kept.{IsLab}
use Rattle.virt_topo.specs.declared.wiring.Wiring.{Wiring}
use Rattle.virt_topo.specs.declared.mapping.Mapping.{Mapping}
use Rattle.virt_topo.specs.Soundness.{IsSound}
use Rattle.lab_model.specs.Shapes.{IsShaped}
use Rattle.cost_rule.specs.declared.rule.RuleNumber.{RuleNumber}
use Rattle.cost_rule.specs.declared.rule.RuleNumber.TheVariants as numbers
use Rattle.cost_rule.specs.Cost.{cost, trunk_uses, nodes_in_use, soft}
use Rattle.cost_rule.proofs.PartLaws.{soft_small, uses_small, nodes_small}

pub trunk_cost : (number : RuleNumber) (lab : Lab) (w : Wiring) (m : Mapping) → number ≡ numbers.Trunk → cost number lab w m ≡ trunk_uses lab w m + soft lab w m
unfolding cost
trunk_cost number lab w m is = ap (λ (n : RuleNumber). cost n lab w m) is

pub pack_cost : (number : RuleNumber) (lab : Lab) (w : Wiring) (m : Mapping) → number ≡ numbers.Pack → cost number lab w m ≡ 1000000 * nodes_in_use m + soft lab w m
unfolding cost
pack_cost number lab w m is = ap (λ (n : RuleNumber). cost n lab w m) is

pub cost_small : (number : RuleNumber) (lab : Lab) (w : Wiring) (m : Mapping) → IsLab lab → IsSound w → IsShaped lab w m → cost number lab w m ≤ 1000000000000000
unfolding cost
cost_small numbers.Trunk lab w m is sound shaped =
    let uses = uses_small lab w m is sound shaped in
    let soft = soft_small lab w m is sound shaped in
    omega (arith, uses, soft)
cost_small numbers.Pack lab w m is sound shaped =
    let nodes = nodes_small lab w m sound shaped in
    let soft = soft_small lab w m is sound shaped in
    omega (arith, nodes, soft)
