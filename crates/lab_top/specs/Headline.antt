-- THE HEADLINE: what holds at each moment of a run, whatever a stop may leave of the disk then.
use Rattle.std.specs.Prelude.{◌≡◌, ◌≤◌, ℕ, List, ◌++◌, length, take, Some, IfSome}
use Rattle.phys_lab.specs.Labs.{Lab}
use Rattle.virt_topo.specs.declared.experiment.Experiment.{Experiment}
use Rattle.plant.specs.Disks.{ArePossible}
use Rattle.plant.specs.Events.{Event}
use Rattle.plant.specs.Seen.{Seen}
use Rattle.plant.specs.Told.{Told}
use Rattle.plant.specs.Worlds.{World, world_of}
use Rattle.records_model.specs.Labs.{LabState, lab_in}
use Rattle.records_model.specs.Works.{IsSound}
use Rattle.lab_core.specs.Moments.{StandForLab}
use Rattle.lab_state.specs.Texts.{the_texts}

-- AT EACH MOMENT of a trace, whatever a stop may leave of the two sides then: their records stand for a lab, and what the devices hold then is as that
-- lab and its experiments have it
abbrev pub AtEachMoment : (Lab → List Experiment → World → Type 0) → List Event → Type 0
AtEachMoment IsAsHad trace = (n : ℕ) → n ≤ length trace → (a b : List ℕ) → ArePossible (take n trace) a b
    → (s : LabState) × StandForLab a b s × IsAsHad (lab_in s.lab) s.experiments (world_of (take n trace))

-- the plant still tells its past, with some steps more, and it is so
pub record StillTold (IsSo : List Event → Type 0) (before : Told) (plant : Seen) : Type 0 where
  pub told : Told
  pub steps : List Event
  pub is : plant.told ≡ Some told
  pub grown : told.trace ≡ before.trace ++ steps
  pub so : IsSo told.trace

-- WHERE A PLANT TELLS ITS PAST, and this is sound at the entry, it is so at the exit
abbrev pub StaysSo : (List Event → Type 0) → Seen → Seen → Type 0
StaysSo IsSo entry exit = IfSome entry.told (λ t. IsSound the_texts t.trace → StillTold IsSo t exit)
