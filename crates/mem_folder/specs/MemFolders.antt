-- A folder in memory as it tells itself, by its history.
use Rattle.std.specs.Prelude.{◌≡◌, List, length, map, take, drop}
use Rattle.lab_base.specs.Lists.{Has}
use Rattle.plant.specs.Events as events
use Rattle.plant.specs.Events.{Event}
use Rattle.plant.specs.Sides.{of_side}
use Rattle.plant.specs.declared.step.Step.{Step}
use Rattle.plant.specs.declared.step.Step.TheVariants as steps
use Rattle.mem_folder.specs.declared.mem_folder.OldText.{OldText}
use Rattle.mem_folder.specs.declared.sides.Sides.{Sides}

-- a step, with the sides after it: so many bytes as were written are there, and so is what a start found
abbrev pub event_of : Step × Sides → Event
event_of (steps.Wrote side at start end, sides) = events.Wrote side at (take end (drop at (of_side side sides.a sides.b).reads.items))
event_of (steps.Synced side, sides) = events.Synced side
event_of (steps.Cut side size, sides) = events.Cut side size
event_of (steps.Missed side, sides) = events.Missed side
event_of (steps.Did op applied answer, sides) = events.Did op applied answer
event_of (steps.Restarted a b, sides) = events.Restarted sides.a.reads.items sides.b.reads.items
event_of (steps.Unread device, sides) = events.Unread device

abbrev pub trace_of : List (Step × Sides) → List Event
trace_of items = map event_of items

-- the history began with that of each older text
abbrev pub AreBegun : List OldText → List Event → Type 0
AreBegun olds trace = (old : OldText) → Has olds old → take (length (trace_of old.steps.items)) trace ≡ trace_of old.steps.items
