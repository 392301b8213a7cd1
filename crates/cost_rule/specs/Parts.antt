-- The parts of a cost.
use Rattle.std.specs.Prelude.{◌≡◌, ◌+◌, ◌*◌, ℕ}
use Rattle.phys_lab.specs.Labs.{Lab}
use Rattle.phys_lab.specs.Kept.{IsLab}
use Rattle.virt_topo.specs.declared.wiring.Wiring.{Wiring}
use Rattle.virt_topo.specs.declared.mapping.Mapping.{Mapping}
use Rattle.virt_topo.specs.Soundness.{IsSound}
use Rattle.lab_model.specs.Shapes.{IsShaped}
use Rattle.cost_rule.specs.declared.parts.Parts.{Parts}
use Rattle.cost_rule.specs.declared.rule.RuleNumber.{RuleNumber}
use Rattle.cost_rule.specs.declared.rule.RuleNumber.TheVariants as numbers
use Rattle.cost_rule.specs.Cost.{trunk_uses, nodes_in_use, soft}

-- the parts of a mapping's cost
abbrev pub parts_of : Lab → Wiring → Mapping → Parts
parts_of lab w m = record { uses = trunk_uses lab w m; nodes = nodes_in_use m; soft = soft lab w m }

-- the cost of the parts by a rule's number
unfoldable pub cost_of_parts : RuleNumber → Parts → ℕ
cost_of_parts numbers.Trunk p = p.uses + p.soft
cost_of_parts numbers.Pack p = 1000000 * p.nodes + p.soft

-- some mapping that is shaped for a lab and a sound wiring has these parts
pub record AreParts (p : Parts) : Type 0 where
  pub lab : Lab
  pub wiring : Wiring
  pub mapping : Mapping
  pub kept : IsLab lab
  pub sound : IsSound wiring
  pub shaped : IsShaped lab wiring mapping
  pub are : p ≡ parts_of lab wiring mapping

-- the parts, but nothing is used of trunks
abbrev pub without_uses : Parts → Parts
without_uses p = record { uses = 0; nodes = p.nodes; soft = p.soft }

-- the costs by this number hang on no uses of trunks
abbrev pub HangsOnNoUses : RuleNumber → Type 0
HangsOnNoUses number = (p q : Parts) → p.nodes ≡ q.nodes → p.soft ≡ q.soft → cost_of_parts number p ≡ cost_of_parts number q
