-- How a turn is told, and the end of a swap.
use Rattle.std.specs.Prelude.{◌≡◌, Option, Some, None}
use Rattle.lab_model.specs.Courses.{Trouble}
use Rattle.swap_txn.specs.Troubles.{what_of}
use Rattle.swap_txn.specs.declared.ended.Ended.{Ended as Over}
use Rattle.swap_turns.specs.Running.{OpenSwap}
use Rattle.swap_turns.specs.Turning.{Outcome, More, TurnsBack, Stopped, EndsAs, IsStuckAs}
use Rattle.swap_turns.specs.declared.progress.Progress.{Progress}
use Rattle.swap_turns.specs.declared.progress.Progress.TheVariants as progress
use Rattle.swap_turns.specs.declared.turn.TurnedSwap.{TurnedSwap}
use Rattle.swap_turns.specs.declared.turn.TurnedSwap.TheVariants as swap

-- HOW A TURN IS TOLD, or the end of a swap
abbrev pub IsProgress : OpenSwap → Progress → Outcome → Type 0
IsProgress o progress.More outcome = outcome ≡ More
IsProgress o (progress.Trouble what) outcome = (why : Trouble) × (what ≡ what_of why) × (outcome ≡ TurnsBack why)
IsProgress o (progress.Ended ended) outcome = EndsAs o ended outcome
IsProgress o (progress.Stuck what) outcome = IsStuckAs what outcome
IsProgress o progress.Stopped outcome = outcome ≡ Stopped

-- the outcome of a turn: what it left, without the state
abbrev pub progress_of : TurnedSwap → Progress
progress_of (swap.Open state None) = progress.More
progress_of (swap.Open state (Some what)) = progress.Trouble what
progress_of (swap.Over ended) = progress.Ended ended
progress_of (swap.Stuck what) = progress.Stuck what
progress_of swap.Stopped = progress.Stopped

-- the end of the swap, where its last record is durable
abbrev pub over_of : Progress → Option Over
over_of (progress.Ended ended) = Some ended
over_of result = None

-- the swap is open no more
abbrev pub IsClosed : Progress → Type 0
IsClosed progress.More = ⊥
IsClosed (progress.Trouble what) = ⊥
IsClosed result = Unit {0}

-- the plant stopped
abbrev pub IsStop : Progress → Type 0
IsStop progress.Stopped = Unit {0}
IsStop result = ⊥
