-- The steps of a course.
use Rattle.std.specs.Prelude.{◌≡◌, Bool, true, List, [], ◌∷◌, ◌++◌, Some, Result, Ok, Err}
use Rattle.plant.specs.Events.{Event, Did}
use Rattle.plant.specs.declared.device.Answer.{Answer}
use Rattle.plant.specs.declared.device.DeviceOp.{DeviceOp}
use Rattle.plant.specs.declared.device.Fault.{Fault}
use Rattle.plant.specs.declared.device.Fault.TheVariants.{Stopped}
use Rattle.lab_model.specs.Courses.{Plan, Left, Trouble, Going, Cut, whole, next, answered, nothing_left, Goes}
use Rattle.lab_model.specs.Leavings.{Sent}
use Rattle.lab_model.specs.OnCourse.{acknowledged}

-- the first commands of a plan, each applied and acknowledged, with that left
pub record IsSent (plan : Plan) (left : Left) (steps : List Event) : Type 0 where
  pub sent : Sent
  pub goes : Goes sent (Going (whole plan)) (Going left)
  pub steps_are : steps ≡ acknowledged sent

-- DONE: all of them
abbrev pub AreAllSent : Plan → List Event → Type 0
AreAllSent plan steps = IsSent plan nothing_left steps

-- a command that was acknowledged was applied
abbrev pub WasApplied : Result Answer Fault → Bool → Type 0
WasApplied (Ok answer) applied = applied ≡ true
WasApplied (Err fault) applied = Unit {0}

-- CUT: some of its first commands, each acknowledged, and the next one, applied or not, of which the answer is that trouble
pub record IsCut (plan : Plan) (trouble : Trouble) (steps : List Event) : Type 0 where
  pub front : List Event
  pub left : Left
  pub sent : IsSent plan left front
  pub op : DeviceOp
  pub comes : next left.todo left.watch left.boot ≡ Some op
  pub applied : Bool
  pub answer : Result Answer Fault
  pub told : WasApplied answer applied
  pub cut : answered left.todo left.watch left.boot answer ≡ Cut trouble
  pub steps_are : steps ≡ front ++ Did op applied answer ∷ []

-- STOPPED: some of its first commands, each acknowledged, and perhaps the next one, applied or not, in which the plant stopped
pub data IsHalted (plan : Plan) (steps : List Event) : Type 0 where
  before : (left : Left) → IsSent plan left steps → IsHalted plan steps
  within : (front : List Event) (left : Left) (op : DeviceOp) (applied : Bool) → IsSent plan left front → next left.todo left.watch left.boot ≡ Some op
      → steps ≡ front ++ Did op applied (Err Stopped) ∷ [] → IsHalted plan steps
