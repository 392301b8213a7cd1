-- The names of a solution text, and their numbers.
use Rattle.std.specs.Prelude.{◌≡◌, ◌<◌, ◌+◌, ◌==◌, ◌&&◌, ℕ, Bool, List, length, drop, slice_index_or, IfSome}
use Rattle.std.specs.List.{position_or_len}
use Rattle.lab_base.specs.Names.{same_name}
use Rattle.indexmap.specs.IndexMap.{get}
use Rattle.phys_lab.specs.Labs.{Lab}
use Rattle.phys_lab.specs.declared.parts.Node.{Node}
use Rattle.phys_lab.specs.declared.parts.Iface.{Iface}
use Rattle.lab_model.specs.Shapes.{no_node}
use Rattle.lab_model.specs.Uses.{no_iface}
use Rattle.virt_topo.specs.Soundness.{end_of}
use Rattle.top_text.specs.Adding.{virt_named}
use Rattle.solution_text.specs.Solutions.{node_named}
use Rattle.solution_text.specs.declared.by_node.NodeIfaces.{NodeIfaces}
use Rattle.solution_text.specs.declared.names.LabTables.{LabTables}
use Rattle.solution_text.specs.declared.names.Names.{Names}

-- two pairs are one
abbrev pub same_key : ℕ × ℕ → ℕ × ℕ → Bool
same_key a b = (a.0 == b.0) && (a.1 == b.1)

-- the node of that number has that name
abbrev pub IsNode : List Node → List ℕ → ℕ → Type 0
IsNode nodes name n = (n < length nodes) × ((slice_index_or nodes n no_node).name ≡ name)

-- the interface of that number is of that node and has that name
abbrev pub IsIface : List Iface → ℕ → List ℕ → ℕ → Type 0
IsIface ifaces node name i = (i < length ifaces) × ((slice_index_or ifaces i no_iface).node.0 ≡ node) × ((slice_index_or ifaces i no_iface).name ≡ name)

-- the number of the first interface of a node from a number on, or the count of all
abbrev pub next_on : List Iface → ℕ → ℕ → ℕ
next_on ifaces node from = from + position_or_len (λ i. node == i.node.0) (drop from ifaces)

-- each node's interfaces stand one after another
pub record AreListed (lab : Lab) (lists : NodeIfaces) : Type 0 where
  pub nodes : length lists.first.items ≡ length lab.nodes
  pub ifaces : length lists.next.items ≡ length lab.ifaces
  pub first : (node : ℕ) → node < length lab.nodes → slice_index_or lists.first.items node 0 ≡ next_on lab.ifaces node 0
  pub next : (i : ℕ) → i < length lab.ifaces → slice_index_or lists.next.items i 0 ≡ next_on lab.ifaces (slice_index_or lab.ifaces i no_iface).node.0 (i + 1)

-- each table of a lab gives the number of what has that name
pub record AreTables (lab : Lab) (tables : LabTables) : Type 0 where
  pub nodes : (name : List ℕ) → get same_name tables.nodes name ≡ node_named lab name
  pub ifaces : AreListed lab tables.ifaces

-- each table gives the number of what has that name
pub record AreNames (names : Names) : Type 0 where
  pub virts : (name : List ℕ) → get same_name names.virts name ≡ virt_named names.wiring.now name
  pub ends : (key : ℕ × ℕ) → get same_key names.ends key ≡ end_of names.wiring.now key.0 key.1
  pub tables : IfSome names.tables (AreTables names.lab.now)
