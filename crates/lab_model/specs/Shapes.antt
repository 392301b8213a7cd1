-- A mapping that is shaped for a lab and a wiring: a place for each virtual node and a plug for each end.
use Rattle.std.specs.Prelude.{◌≡◌, ◌<◌, ℕ, Bool, true, List, [], length, slice_index_or, All}
use Rattle.std.specs.List.{list_any}
use Rattle.lab_base.specs.declared.ids.NodeId.{NodeId}
use Rattle.lab_base.specs.Names.{same_name}
use Rattle.phys_lab.specs.declared.parts.Node.{Node}
use Rattle.phys_lab.specs.declared.free.Free.{Free}
use Rattle.phys_lab.specs.Labs.{Lab}
use Rattle.virt_topo.specs.Ends.{end_nodes}
use Rattle.virt_topo.specs.declared.wiring.Wiring.{Wiring}
use Rattle.virt_topo.specs.declared.mapping.Mapping.{Mapping}

-- a node, and one of its types
abbrev pub Place : Type 0
Place = NodeId × List ℕ

abbrev pub no_node : Node
no_node = record { name = []; types = []; features = [] }

abbrev pub node_at : Lab → NodeId → Node
node_at lab n = slice_index_or lab.nodes n.0 no_node

-- names with numbers have the name
abbrev pub has_name : List (List ℕ × ℕ) → List ℕ → Bool
has_name pairs name = list_any (λ p. same_name p.0 name) pairs

-- the mapping is shaped for lab and wiring
pub record IsShaped (lab : Lab) (w : Wiring) (m : Mapping) : Type 0 where
  pub places : length m.places ≡ length w.nodes
  pub plugs : length m.plugs ≡ length (end_nodes w.segments)
  pub in_nodes : All (λ p. p.0.0 < length lab.nodes) m.places
  pub in_lab : All (λ i. i.0 < length lab.ifaces) m.plugs
  pub of_node : All (λ p. has_name (node_at lab p.0).types p.1 ≡ true) m.places

-- what others leave has an entry for each node and each trunk of the lab
pub record IsFreeOf (lab : Lab) (free : Free) : Type 0 where
  pub nodes : length free.nodes ≡ length lab.nodes
  pub trunks : length free.left ≡ length lab.trunks
