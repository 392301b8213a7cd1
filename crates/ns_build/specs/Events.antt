-- The task of `$ns at`, or its first fault.
use Rattle.std.specs.Prelude.{ℕ, ◌==◌, nat_le, Bool, ◌&&◌, List, length, codes, Result, Ok, Err, if◌then◌else◌}
use Rattle.lab_base.specs.declared.fault.Kind.{Kind}
use Rattle.lab_base.specs.declared.fault.Kind.TheVariants as kinds
use Rattle.lab_base.specs.Names.{same_name}
use Rattle.ns_words.specs.Values.{time_of}
use Rattle.ns_events.specs.declared.event.What.{What}
use Rattle.ns_events.specs.declared.event.What.TheVariants as whats
use Rattle.ns_build.specs.declared.task.Task.{Task}
use Rattle.ns_build.specs.declared.task.Task.TheVariants as tasks
use Rattle.ns_build.specs.declared.task.Planned.{Planned}
use Rattle.ns_build.specs.Networks.{Network}
use Rattle.ns_build.specs.Words.{link_of, elements_of}
use Rattle.ns_build.specs.Checks.{◌>>=◌, need, refuse, word_at, counted, bandwidth_in, delay_in, loss_in}

unfoldable pub time_in : List ℕ → Result ℕ Kind
time_in word = need kinds.Time (time_of word)

-- so many parts, of which the second is this word
abbrev pub is_form : ℕ → List ℕ → List (List ℕ) → Bool
is_form count word parts = (length parts == count) && same_name (word_at parts 1) word

-- `rates BW DELAY LOSS` after the word of a link or LAN
unfoldable pub rates_in : List (List ℕ) → Result What Kind
rates_in parts = do
  kbps ← bandwidth_in (word_at parts 2)
  micros ← delay_in (word_at parts 3)
  ppm ← loss_in (word_at parts 4)
  Ok (whats.Rates (record { kbps = kbps; micros = micros; ppm = ppm }))

-- `down`, `up` or `rates BW DELAY LOSS` after the word of a link or LAN
unfoldable pub what_in : List (List ℕ) → Result What Kind
what_in parts =
    if is_form 2 (codes "down") parts then Ok whats.Down
    else (if is_form 2 (codes "up") parts then Ok whats.Up
    else (if is_form 5 (codes "rates") parts then rates_in parts else Err kinds.Event))

-- the event of a list at a time, on a line
unfoldable pub event_in : ℕ → Network → ℕ → List (List ℕ) → Result Planned Kind
event_in line n at parts = do
  some ← refuse kinds.Event (length parts == 0)
  index ← need kinds.Link (link_of n (word_at parts 0))
  what ← what_in parts
  Ok (record { at = at; index = index; what = what; line = line })

-- `$ns at TIME EVENT`
unfoldable pub judged_at : ℕ → Network → List (List ℕ) → Result Task Kind
judged_at line n words = do
  form ← counted 4 words
  at ← time_in (word_at words 2)
  event ← event_in line n at (elements_of (word_at words 3))
  room ← refuse kinds.Limit (nat_le 1024 (length n.events))
  Ok (tasks.AddEvent event)
