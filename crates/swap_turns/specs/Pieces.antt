-- Kinds of steps among those of a command.
use Rattle.std.specs.Prelude.{◌≡◌, ℕ, Bool, true, false, List, [], ◌∷◌, ◌++◌}
use Rattle.std.specs.List.{list_any}
use Rattle.plant.specs.Events.{Event, Missed, Did, Restarted, Unread}

abbrev pub is_restart : Event → Bool
is_restart (Restarted a b) = true
is_restart event = false

-- a step of no course and of no call of the disk: a stopped plant was started again, or a device did not tell what it holds
abbrev pub is_outer : Event → Bool
is_outer (Restarted a b) = true
is_outer (Unread device) = true
is_outer event = false

abbrev pub is_miss : Event → Bool
is_miss (Missed side) = true
is_miss event = false

abbrev pub is_command : Event → Bool
is_command (Did op applied answer) = true
is_command event = false

-- the plant stopped, and was started again; a call of the disk failed; a device command was sent
abbrev pub has_restart : List Event → Bool
has_restart events = list_any is_restart events

abbrev pub has_outer : List Event → Bool
has_outer events = list_any is_outer events

abbrev pub has_miss : List Event → Bool
has_miss events = list_any is_miss events

abbrev pub has_command : List Event → Bool
has_command events = list_any is_command events

-- the plant was started again at the end of these steps, and nowhere before; nor did a reading fail in them
pub record EndsRestarted (events : List Event) : Type 0 where
  pub front : List Event
  pub a : List ℕ
  pub b : List ℕ
  pub is : events ≡ front ++ Restarted a b ∷ []
  pub once : has_outer front ≡ false
