-- One turn of an open swap that is made, and what it leaves.
use Rattle.std.specs.Prelude.{◌≡◌, ◌<◌, Option, Some, None}
use Rattle.plant.specs.Told.{Told}
use Rattle.journal_disk.specs.declared.journal.Journal.{Journal}
use Rattle.records_model.specs.Labs.{LabState, Texts}
use Rattle.swap_txn.specs.declared.live.Live.{Live}
use Rattle.swap_txn.specs.declared.live.Live.TheVariants as live
use Rattle.swap_txn.specs.declared.turned.Turned.{Turned}
use Rattle.swap_txn.specs.declared.turned.Turned.TheVariants as turned
use Rattle.plant.specs.Seen.{Seen}
use Rattle.swap_txn.specs.Turns.{Turns}
use Rattle.swap_turns.specs.Finishing.{HasFinished, IsOnWay}
use Rattle.swap_turns.specs.Running.{OpenSwap, IsOpen, AtWork}
use Rattle.swap_turns.specs.Turning.{Stopped, EndsAs, IsStuckAs}
use Rattle.swap_turns.specs.Weights.{turns_left}
use Rattle.swap_turns.specs.declared.turn.TurnedSwap.{TurnedSwap}
use Rattle.swap_turns.specs.declared.turn.TurnedSwap.TheVariants as swap

-- a controller at work has a swap open in that state
pub record CanTurn (told : Option Told) (j : Journal) (state : Live) : Type 0 where
  pub texts : Texts
  pub lab : LabState
  pub swap : OpenSwap
  pub work : AtWork texts told j lab
  pub is_open : IsOpen lab swap state

-- WHAT IS LEFT, by the answer of a state's turn: the swap is open in the next state, or in the first of its undo; or it is over, stuck or stopped
abbrev pub IsReached : Live → TurnedSwap → Type 0
IsReached (live.Ended ended) result = result ≡ swap.Over ended
IsReached state result = result ≡ swap.Open state None

abbrev pub IsLeftBy : Turned Live → TurnedSwap → Type 0
IsLeftBy (turned.Same state) result = result ≡ swap.Open state None
IsLeftBy (turned.Next state) result = IsReached state result
IsLeftBy (turned.Trouble b what) result = result ≡ swap.Open (live.Undoing b) (Some what)
IsLeftBy (turned.Stuck state what) result = result ≡ swap.Stuck what
IsLeftBy turned.Stopped result = result ≡ swap.Stopped

-- ONE TURN OF A STATE was made, which left that
pub record HasMade (state : Live) (was now : Seen) (j k : Journal) (result : TurnedSwap) : Type 0 where
  pub turned : Turned Live
  pub turns : Turns state was now j k turned
  pub is : IsLeftBy turned result

-- the state in which the swap is open still
abbrev pub open_in : TurnedSwap → Option Live
open_in (swap.Open state trouble) = Some state
open_in result = None

-- of a swap on its way since a moment: it is on its way still, or over
abbrev pub IsLeftOnWay : Texts → LabState → OpenSwap → Seen → Seen → Journal → Journal → TurnedSwap → Type 0
IsLeftOnWay t s o before now i j (swap.Open state trouble) = IsOnWay t s o before now i j state
IsLeftOnWay t s o before now i j (swap.Over ended) = HasFinished t s o before now i j (λ at outcome. EndsAs at ended outcome)
IsLeftOnWay t s o before now i j (swap.Stuck what) = HasFinished t s o before now i j (λ at outcome. IsStuckAs what outcome)
IsLeftOnWay t s o before now i j swap.Stopped = HasFinished t s o before now i j (λ at outcome. outcome ≡ Stopped)

-- fewer turns are left
abbrev pub TurnsLess : Live → TurnedSwap → Type 0
TurnsLess was (swap.Open state trouble) = turns_left state < turns_left was
TurnsLess was result = Unit {0}

-- the plant stopped
abbrev pub IsStop : TurnedSwap → Type 0
IsStop swap.Stopped = Unit {0}
IsStop result = ⊥
