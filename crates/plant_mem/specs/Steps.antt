-- The steps that a plant in memory keeps: their bytes are ranges of one list, which only grows.
use Rattle.std.specs.Prelude.{ℕ, Bool, true, ◌&&◌, nat_le, List, map, slice_range}
use Rattle.std.specs.List.{list_all}
use Rattle.plant.specs.declared.step.Step.{Step}
use Rattle.plant.specs.declared.step.Step.TheVariants as steps
use Rattle.plant.specs.Events.{Event}
use Rattle.plant.specs.Events as events

-- a step with its bytes
abbrev pub event_of : List ℕ → Step → Event
event_of bytes (steps.Wrote side at start end) = events.Wrote side at (slice_range bytes start end)
event_of bytes (steps.Synced side) = events.Synced side
event_of bytes (steps.Cut side size) = events.Cut side size
event_of bytes (steps.Missed side) = events.Missed side
event_of bytes (steps.Did op applied answer) = events.Did op applied answer
event_of bytes (steps.Restarted a b) = events.Restarted (slice_range bytes a.0 a.1) (slice_range bytes b.0 b.1)
event_of bytes (steps.Unread device) = events.Unread device

abbrev pub trace_of : List ℕ → List Step → List Event
trace_of bytes steps = map (event_of bytes) steps

-- the ranges of a step end within so many bytes
abbrev pub is_range : ℕ → ℕ → ℕ → Bool
is_range n start end = nat_le start end && nat_le end n

abbrev pub is_within : ℕ → Step → Bool
is_within n (steps.Wrote side at start end) = is_range n start end
is_within n (steps.Restarted a b) = is_range n a.0 a.1 && is_range n b.0 b.1
is_within n step = true

abbrev pub are_within : ℕ → List Step → Bool
are_within n steps = list_all (is_within n) steps
