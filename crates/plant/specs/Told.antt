-- The past that a plant tells.
use Rattle.std.specs.Prelude.{List, [], ◌∷◌, ◌++◌, length, Option, None, Some}
use Rattle.plant.specs.declared.drill.Drill.{Drill}
use Rattle.plant.specs.declared.moment.Faults.{Faults}
use Rattle.plant.specs.declared.moment.Moment.{Moment}
use Rattle.plant.specs.declared.moment.Taken.{Taken}
use Rattle.plant.specs.Events.{Event}

-- the trace, the moments that were marked, and the drills that were taken
pub record Told : Type 0 where
  pub trace : List Event
  pub marks : List Moment
  pub drills : List Taken

-- some steps more
abbrev pub with_steps : Option Told → List Event → Option Told
with_steps None steps = None
with_steps (Some t) steps = Some (record t { trace = t.trace ++ steps })

-- the present moment is marked
abbrev pub with_mark : Option Told → Faults → Option Told
with_mark None now = None
with_mark (Some t) now = Some (record t { marks = t.marks ++ record { at = length t.trace; faults = now } ∷ [] })

-- a drill more
abbrev pub with_drill : Option Told → Drill → Option Told
with_drill None drill = None
with_drill (Some t) drill = Some (record t { drills = t.drills ++ record { at = length t.trace; drill = drill } ∷ [] })
