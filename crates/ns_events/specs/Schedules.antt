-- The events of a span of time.
use Rattle.std.specs.Prelude.{◌≡◌, ℕ, Bool, ◌==◌, ◌&&◌, nat_le, nat_lt, List, filter}
use Rattle.std.specs.List.Sorted.{IsNonDecreasingBy}
use Rattle.ns_events.specs.declared.event.Event.{Event}

-- at `from` or later, and before `to`
abbrev pub is_due : ℕ → ℕ → Event → Bool
is_due from to e = nat_le from e.at && nat_lt e.at to

-- the events of one moment
abbrev pub at_moment : ℕ → List Event → List Event
at_moment moment events = filter (λ e. e.at == moment) events

-- the events of the span by time, equal times in text order
pub record IsSchedule (from to : ℕ) (events due : List Event) : Type 0 where
  pub by_time : IsNonDecreasingBy (λ e. e.at) due
  pub each_moment : (moment : ℕ) → at_moment moment due ≡ at_moment moment (filter (is_due from to) events)
