-- Trunks, nodes and VLAN ids hold what is claimed.
use Rattle.std.specs.Prelude.{◌≡◌, ◌<◌, ◌≤◌, ℕ, List, length, sum_by, Some}
use Rattle.std.specs.List.{flat_map}
use Rattle.lab_base.specs.Lists.{Has, Apart, AllDiffer}
use Rattle.phys_lab.specs.Sides.{trunk_at}
use Rattle.phys_lab.specs.Labs.{Lab}
use Rattle.virt_topo.specs.declared.mapping.Mapped.{Mapped}
use Rattle.virt_topo.specs.declared.experiment.Experiment.{Experiment}
use Rattle.virt_topo.specs.Soundness.{IsSound}
use Rattle.lab_model.specs.Shapes.{IsShaped}
use Rattle.lab_model.specs.Feasible.{AllPass}
use Rattle.lab_model.specs.Claims.{Which, claimed, Claims, claimed_tags, claimed_use}
use Rattle.lab_model.specs.Rules.{keeps_f2, keeps_f3, keeps_f4, keeps_f5, keeps_f7}

-- the mapping is shaped for the lab and its sound wiring, has one tag per segment, and keeps F2, F3, F4, F5 and F7
pub record Suits (lab : Lab) (m : Mapped) : Type 0 where
  pub sound : IsSound m.wiring
  pub shaped : IsShaped lab m.wiring m.mapping
  pub tags : length m.tags ≡ length m.wiring.segments
  pub one_kind : AllPass (length lab.nodes) (keeps_f2 lab m.wiring m.mapping)
  pub asked : AllPass (length m.wiring.nodes) (keeps_f3 lab m.wiring m.mapping)
  pub fixed : AllPass (length m.wiring.nodes) (keeps_f4 lab m.wiring m.mapping)
  pub plugged : AllPass (length m.mapping.plugs) (keeps_f5 lab m.wiring m.mapping)
  pub joined : AllPass (length m.wiring.segments) (keeps_f7 lab m.wiring m.mapping)

-- HOLDING: trunks, nodes and VLAN ids hold what is claimed.
pub record Holding (lab : Lab) (es : List Experiment) : Type 0 where
  pub fits : (e : Experiment) (which : Which) (m : Mapped) → Has es e → claimed e which ≡ Some m → Suits lab m
  pub nodes : Apart (λ e f. (name : List ℕ) → Claims lab e name → Claims lab f name → ⊥) es
  pub trunks : (t : ℕ) → t < length lab.trunks → sum_by (claimed_use lab t) es ≤ (trunk_at lab.trunks t).kbps
  pub tags : AllDiffer (flat_map claimed_tags es)
  pub in_range : (tag : ℕ) → Has (flat_map claimed_tags es) tag → (lab.range.0 ≤ tag) × (tag ≤ lab.range.1)
