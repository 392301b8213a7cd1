use Rattle.std.proofs.Common.{◌≡◌, ◌≤◌, ◌*◌, ℕ, ap, arith}
use Rattle.cost_rule.specs.declared.parts.Parts.{Parts}
use Rattle.cost_rule.specs.Parts.{AreParts}
use Rattle.cost_rule.proofs.PartLaws.{soft_small, uses_small, nodes_small}
use Rattle.rule_costs.proofs.parts_cost.Goals as goal

uses_of : (p : Parts) → AreParts p → p.uses ≤ 64 * (4096 * 1000000000)
uses_of p a = let same : ◌≡◌ {A = ℕ} p.uses _ = ap (λ (q : Parts). q.uses) a.are in let few = uses_small a.lab a.wiring a.mapping a.kept a.sound a.shaped in omega (arith, same, few)

nodes_of : (p : Parts) → AreParts p → p.nodes ≤ 256
nodes_of p a = let same : ◌≡◌ {A = ℕ} p.nodes _ = ap (λ (q : Parts). q.nodes) a.are in let few = nodes_small a.lab a.wiring a.mapping a.sound a.shaped in omega (arith, same, few)

soft_of : (p : Parts) → AreParts p → p.soft ≤ 1000000000
soft_of p a = let same : ◌≡◌ {A = ℕ} p.soft _ = ap (λ (q : Parts). q.soft) a.are in let few = soft_small a.lab a.wiring a.mapping a.kept a.sound a.shaped in omega (arith, same, few)

pub overflow_add-result : goal.overflow_add-result
overflow_add-result c = let uses = uses_of c.args.parts c.requires in let soft = soft_of c.args.parts c.requires in omega (arith, uses, soft)

pub overflow_mul-result : goal.overflow_mul-result
overflow_mul-result c = let nodes = nodes_of c.args.parts c.requires in omega (arith, nodes)

pub overflow_add-result-in-Pack : goal.overflow_add-result-in-Pack
overflow_add-result-in-Pack c = let nodes = nodes_of c.args.parts c.requires in let soft = soft_of c.args.parts c.requires in omega (arith, nodes, soft)
