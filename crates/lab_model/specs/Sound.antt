-- Sound traces: at every moment each image that a stop may leave stands for a lab that the world keeps.
use Rattle.std.specs.Prelude.{◌≤◌, ◌+◌, ◌*◌, ◌^◌, ℕ, Bool, true, false, List, length, take, count_by}
use Rattle.phys_lab.specs.Labs.{Lab}
use Rattle.virt_topo.specs.declared.experiment.Experiment.{Experiment}
use Rattle.virt_topo.specs.declared.experiment.Phase.{Phase}
use Rattle.virt_topo.specs.declared.experiment.Phase.TheVariants.{Moving}
use Rattle.plant.specs.Worlds.{World, world_of}
use Rattle.plant.specs.Disks.{ArePossible}
use Rattle.plant.specs.Events.{Event}
use Rattle.lab_model.specs.Holding.{Holding}
use Rattle.lab_model.specs.Isolated.{Isolated}
use Rattle.lab_model.specs.Cabled.{Cabled}

-- the experiment moves
abbrev pub is_moving : Experiment → Bool
is_moving e = moving e.phase
  where
    moving : Phase → Bool
    moving (Moving old new) = true
    moving phase = false

-- what the records of two sides stand for, with the journal's length
pub record Standing : Type 0 where
  pub lab : Lab
  pub experiments : List Experiment
  pub size : ℕ

-- the world keeps the lab
pub record Keeps (w : World) (s : Standing) : Type 0 where
  pub holding : Holding s.lab s.experiments
  pub isolated : Isolated s.lab s.experiments w
  pub cabled : Cabled s.lab s.experiments w
  pub room : s.size + 39 * count_by is_moving s.experiments ≤ 2 ^ 32

-- each possible image stands for something that the world keeps
abbrev pub SoundAt : (List ℕ → List ℕ → Standing → Type 0) → List Event → Type 0
SoundAt StandsFor trace = (a b : List ℕ) → ArePossible trace a b → (s : Standing) × StandsFor a b s × Keeps (world_of trace) s

-- at every moment
abbrev pub Sound : (List ℕ → List ℕ → Standing → Type 0) → List Event → Type 0
Sound StandsFor trace = (n : ℕ) → n ≤ length trace → SoundAt StandsFor (take n trace)
