-- The append of a record, by its steps and the labs.
use Rattle.std.specs.Prelude.{ℕ, ◌≡◌, ◌⊎◌, List, [], ◌∷◌, ◌++◌, Some}
use Rattle.plant.specs.Events.{Event, Missed}
use Rattle.plant.specs.declared.step.Side.{Side}
use Rattle.journal_rec.specs.declared.record.Record.{Record}
use Rattle.journal_model.specs.Appends.{Run, All, added}
use Rattle.records_model.specs.Labs.{LabState, Move, moved}

-- the whole append of a record that says the move
pub record IsWhole (s : LabState) (r : Record) (move : Move) (steps : List Event) (after : LabState) : Type 0 where
  pub side : Side
  pub gate : ℕ
  pub steps_are : steps ≡ added side gate r All
  pub moves : moved s move ≡ Some after

-- a part of it, and those steps after: the lab is that before the record, or that after it
pub record IsBroken (behind : Side → List Event) (s : LabState) (r : Record) (move : Move) (steps : List Event) (after : LabState) : Type 0 where
  pub side : Side
  pub gate : ℕ
  pub run : Run
  pub steps_are : steps ≡ added side gate r run ++ behind side
  pub state : LabState
  pub moves : moved s move ≡ Some state
  pub either : (after ≡ s) ⊎ (after ≡ state)

-- a call that failed stands after, or nothing
abbrev pub missed : Side → List Event
missed side = Missed side ∷ []

abbrev pub nothing : Side → List Event
nothing side = []
