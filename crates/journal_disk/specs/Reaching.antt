-- How far some calls of the disk came, one after another.
use Rattle.std.specs.Prelude.{◌≡◌, List, [], ◌∷◌, ◌++◌, Option, Result, Ok, Err}
use Rattle.plant.specs.Events.{Event, Missed}
use Rattle.plant.specs.Told.{Told, with_steps}
use Rattle.plant.specs.declared.device.Fault.{Fault}
use Rattle.plant.specs.declared.device.Fault.TheVariants.{Failed, Stopped}
use Rattle.plant.specs.declared.step.Side.{Side}

-- what stands last after a call that was not acknowledged
abbrev pub IsLast : Side → Fault → List Event → Type 0
IsLast side Failed more = more ≡ Missed side ∷ []
IsLast side Stopped more = more ≡ []

-- up to the goal after Ok
abbrev pub ReachEnds : {X : Type 0} → X → Side → Result (Unit {0}) Fault → X → List Event → Type 0
ReachEnds goal side (Ok done) far more = (far ≡ goal) × (more ≡ [])
ReachEnds goal side (Err fault) far more = IsLast side fault more

-- they came so far, by the steps of each part
pub record Reaches {X : Type 0} (steps_of : X → List Event) (P : X → Type 0) (goal : X) (side : Side) (old new : Option Told) (result : Result (Unit {0}) Fault) : Type 0 where
  pub far : X
  pub may : P far
  pub more : List Event
  pub trace : new ≡ with_steps old (steps_of far ++ more)
  pub ends : ReachEnds goal side result far more
