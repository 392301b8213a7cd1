-- The state of the plant where the controller closes: after a call of the journal that failed, or a stop of the plant.
use Rattle.std.specs.Prelude.{ℕ, List, ◌++◌, Option, IfSome}
use Rattle.plant.specs.Disks.{ArePossible}
use Rattle.plant.specs.Events.{Event}
use Rattle.plant.specs.Told.{Told}
use Rattle.records_model.specs.Labs.{LabState, Texts}
use Rattle.records_model.specs.Works.{IsSound}
use Rattle.swap_turns.specs.Working.{StandForLab}

-- IT IS CLOSED by such steps, whatever the trace before them, which led to that lab; and where that trace is sound, each possible image stands for a lab to which they led
pub record Closes (t : Texts) (told : Option Told) (steps : List Event) (Is : List Event → LabState → Type 0) : Type 0 where
  pub after : LabState
  pub is : Is steps after
  pub images : IfSome told (λ w. IsSound t w.trace → (a b : List ℕ) → ArePossible (w.trace ++ steps) a b → (lab : LabState) × StandForLab t a b lab × Is steps lab)
