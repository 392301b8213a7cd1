-- The cost of a mapping by the number of a rule. All sums are in whole numbers.
use Rattle.std.specs.Prelude.{◌+◌, ◌-◌, ◌*◌, ℕ, zero, suc, Bool, not, ◌&&◌, ◌==◌, nat_lt, List, [], ◌∷◌, length, map, sum_by, if◌then◌else◌}
use Rattle.std.specs.List.{list_any}
use Rattle.lab_base.specs.Names.{same_name}
use Rattle.lab_base.specs.declared.ids.NodeId.{NodeId}
use Rattle.phys_lab.specs.Labs.{Lab}
use Rattle.virt_topo.specs.declared.wiring.VirtNode.{VirtNode}
use Rattle.virt_topo.specs.declared.wiring.Wiring.{Wiring}
use Rattle.virt_topo.specs.declared.mapping.Mapping.{Mapping}
use Rattle.virt_topo.specs.Wirings.{virt_at}
use Rattle.lab_model.specs.Shapes.{Place, node_at, has_name}
use Rattle.lab_model.specs.Rules.{place_at, class_at, is_member}
use Rattle.lab_model.specs.Uses.{use_of}
use Rattle.cost_rule.specs.declared.rule.RuleNumber.{RuleNumber}
use Rattle.cost_rule.specs.declared.rule.RuleNumber.TheVariants as numbers

-- the sum of f over the numbers below n
abbrev pub sum_below : ℕ → (ℕ → ℕ) → ℕ
sum_below zero f = 0
sum_below (suc n) f = sum_below n f + f n

-- how many different ones there are
abbrev pub different : {X : Type 0} → (X → X → Bool) → List X → ℕ
different same [] = 0
different same (x ∷ xs) = if list_any (same x) xs then different same xs else different same xs + 1

-- SOFT

-- the weight of a name where it is below 1000 and the name is not among those given
abbrev pub missed_weight : List (List ℕ × ℕ) → List ℕ × ℕ → ℕ
missed_weight given p = if nat_lt p.1 1000 && not (has_name given p.0) then p.1 else 0

-- the weights below 1000 of the wanted names that are not among those given
abbrev pub missed : List (List ℕ × ℕ) → List (List ℕ × ℕ) → ℕ
missed wanted given = sum_by (missed_weight given) wanted

-- what virtual node v misses of a node, and the features of the node that it doesn't desire
abbrev pub soft_at : Lab → Wiring → ℕ → NodeId → ℕ
soft_at lab w v n = missed (virt_at w v).desires (node_at lab n).features + missed (node_at lab n).features (virt_at w v).desires

-- the same of the node that it is on
abbrev pub node_soft : Lab → Wiring → Mapping → ℕ → ℕ
node_soft lab w m v = soft_at lab w v (place_at m v).0

-- the types of the members of a class
abbrev pub types_of : ℕ → List VirtNode → List Place → List (List ℕ)
types_of c [] places = []
types_of c (v ∷ vs) [] = []
types_of c (v ∷ vs) (p ∷ places) = if is_member c v.asks then p.1 ∷ types_of c vs places else types_of c vs places

-- how many different types the members of a class have
abbrev pub kinds_of : Wiring → Mapping → ℕ → ℕ
kinds_of w m c = different same_name (types_of c w.nodes m.places)

-- the weight of a class below 1000 for each type of its members but one
abbrev pub class_soft : Wiring → Mapping → ℕ → ℕ
class_soft w m c = if nat_lt (class_at w c).weight 1000 then (class_at w c).weight * (kinds_of w m c - 1) else 0

-- what a mapping leaves of desires, features and classes
abbrev pub soft : Lab → Wiring → Mapping → ℕ
soft lab w m = sum_below (length w.nodes) (node_soft lab w m) + sum_below (length w.classes) (class_soft w m)

-- THE COSTS

-- the uses of all trunks, in kbps
abbrev pub trunk_uses : Lab → Wiring → Mapping → ℕ
trunk_uses lab w m = sum_below (length lab.trunks) (use_of lab w m)

abbrev pub same_node : ℕ → ℕ → Bool
same_node n k = n == k

-- how many nodes are in use
abbrev pub nodes_in_use : Mapping → ℕ
nodes_in_use m = different same_node (map (λ p. p.0.0) m.places)

-- the cost by a rule's number
unfoldable pub cost : RuleNumber → Lab → Wiring → Mapping → ℕ
cost numbers.Trunk lab w m = trunk_uses lab w m + soft lab w m
cost numbers.Pack lab w m = 1000000 * nodes_in_use m + soft lab w m
