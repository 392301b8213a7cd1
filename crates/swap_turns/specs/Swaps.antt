-- A swap, and where it is.
use Rattle.std.specs.Prelude.{ℕ, ◌≡◌, ◌≤◌, List, length, Option, Some, None}
use Rattle.lab_base.specs.declared.ids.VlanId.{VlanId}
use Rattle.virt_topo.specs.declared.experiment.Experiment.{Experiment}
use Rattle.virt_topo.specs.declared.experiment.Phase.TheVariants.{Moving}
use Rattle.virt_topo.specs.declared.mapping.Mapped.{Mapped}
use Rattle.virt_topo.specs.declared.mapping.Mapping.{Mapping}
use Rattle.virt_topo.specs.declared.wiring.Wiring.{Wiring}
use Rattle.virt_topo.specs.Wirings.{mapped}
use Rattle.records_model.specs.Labs.{LabState, find}

-- which experiment moves, from which mapping, to which one
pub record Swap : Type 0 where
  pub name : List ℕ
  pub old : Option Mapped
  pub new : Option Mapped

-- from or to a mapping
abbrev pub IsSwap : Option Mapped → Option Mapped → Type 0
IsSwap None None = ⊥
IsSwap old new = Unit {0}

-- the experiment, which has a short name, moves so in that lab
pub record Moves (p : Swap) (s : LabState) : Type 0 where
  pub is_swap : IsSwap p.old p.new
  pub short : length p.name ≤ 32
  pub exp : Experiment
  pub found : find p.name s.experiments ≡ Some exp
  pub moving : exp.phase ≡ Moving p.old p.new

-- the swaps of an experiment: in, out of where it is, and from there to another wiring and mapping
abbrev pub swap_in : Experiment → Mapping → List VlanId → Swap
swap_in e mapping tags = record { name = e.name; old = None; new = Some (mapped e.wiring mapping tags) }

abbrev pub swap_out : Experiment → Mapping → List VlanId → Swap
swap_out e mapping tags = record { name = e.name; old = Some (mapped e.wiring mapping tags); new = None }

abbrev pub swap_over : Experiment → Mapping → List VlanId → Wiring → Mapping → List VlanId → Swap
swap_over e mapping tags wiring other others = record { name = e.name; old = Some (mapped e.wiring mapping tags); new = Some (mapped wiring other others) }
