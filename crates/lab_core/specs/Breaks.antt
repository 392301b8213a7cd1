-- How a part of a command's steps breaks off.
use Rattle.std.specs.Prelude.{◌≡◌, ℕ, true, false, List, [], ◌∷◌, Option, Some, None}
use Rattle.plant.specs.Events.{Event, Restarted}
use Rattle.swap_turns.specs.Turning.{Outcome, Stopped as Halted}
use Rattle.swap_turns.specs.Pieces.{has_outer, has_miss, EndsRestarted}
use Rattle.script_text.specs.declared.reply.Reply.{Reply}
use Rattle.script_text.specs.declared.reply.Reply.TheVariants.{Stopped, Down}

-- A PART BREAKS OFF, and the reply tells why: the plant stopped, and was started again; or a call of the disk failed. Or there is no reply,
-- since memory was wanting or the sides are no journal.
pub data Breaks (events : List Event) (reply : Option Reply) : Type 0 where
  stopped : EndsRestarted events → reply ≡ Some Stopped → Breaks events reply
  failed : has_outer events ≡ false → has_miss events ≡ true → reply ≡ Some Down → Breaks events reply
  unanswered : reply ≡ None → Breaks events reply

-- after the steps of a swap in which the plant stopped stands its start
abbrev pub StartsAfter : Outcome → List Event → Type 0
StartsAfter Halted behind = (a : List ℕ) × (b : List ℕ) × (behind ≡ Restarted a b ∷ [])
StartsAfter outcome behind = behind ≡ []
