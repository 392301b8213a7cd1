-- Nodes and virtual nodes that a step from one map to another leaves untouched.
use Rattle.std.specs.Prelude.{◌≡◌, ℕ, Bool, true, false, List, length, slice_index_or}
use Rattle.phys_lab.specs.Labs.{Lab}
use Rattle.virt_topo.specs.declared.wiring.Wiring.{Wiring}
use Rattle.virt_topo.specs.declared.mapping.Mapping.{Mapping}
use Rattle.virt_topo.specs.Wirings.{virt_at}
use Rattle.lab_model.specs.Rules.{is_member, place_at}
use Rattle.map_anneal.specs.declared.known.Touched.{Touched}
use Rattle.map_anneal.specs.Steps.{IsStep, KeepsTypes}

-- virtual node v is on a node that isn't marked, and its class keeps its types
pub record IsUntouched (w : Wiring) (x y : Mapping) (nodes : List Bool) (v : ℕ) : Type 0 where
  pub here : slice_index_or nodes (place_at x v).0.0 true ≡ false
  pub class : (c : ℕ) → is_member c (virt_at w v).asks ≡ true → KeepsTypes w x y c

-- the nodes and virtual nodes that the step touches are marked
pub record IsTouched (lab : Lab) (w : Wiring) (x y : Mapping) (t : Touched) : Type 0 where
  pub nodes : IsStep lab w x y t.nodes.items
  pub one_each : length t.virts.items ≡ length w.nodes
  pub virts : (v : ℕ) → slice_index_or t.virts.items v true ≡ false → IsUntouched w x y t.nodes.items v
