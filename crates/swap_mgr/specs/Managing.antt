-- A manager at work, and what its calls do.
use Rattle.std.specs.Prelude.{◌≡◌, ◌<◌, ◌≤◌, ℕ, List, [], ◌∷◌, ◌++◌, length, map, Option, IfSome, Result, Ok, Err}
use Rattle.lab_base.specs.Lists.{Has, listed}
use Rattle.plant.specs.Events.{Event}
use Rattle.plant.specs.Told.{Told, with_steps}
use Rattle.journal_rec.specs.declared.record.Record.{Record}
use Rattle.journal_disk.specs.declared.journal.Journal.{Journal}
use Rattle.records_model.specs.Labs.{LabState, Move, Texts}
use Rattle.records_model.specs.Works.{IsSound}
use Rattle.swap_txn.specs.declared.live.Live.{Live}
use Rattle.swap_txn.specs.declared.turned.Turned.{Turned}
use Rattle.swap_txn.specs.declared.turned.Turned.TheVariants as turned
use Rattle.lab_base.specs.declared.what.What.TheVariants as whats
use Rattle.plant.specs.Seen.{Seen}
use Rattle.swap_txn.specs.States.{Plans}
use Rattle.swap_turns.specs.Records.{missed, nothing}
use Rattle.swap_turns.specs.Swaps.{Swap}
use Rattle.swap_turns.specs.Causes.{IsLater}
use Rattle.swap_turns.specs.Beginning.{HasBegun, HasNotBegun, opened}
use Rattle.swap_turns.specs.Finishing.{Finishes, HasFinished}
use Rattle.swap_turns.specs.Legs.{Leg, Settling}
use Rattle.swap_turns.specs.Lengths.{IsLonger}
use Rattle.swap_turns.specs.Running.{OpenSwap, Working}
pub use Rattle.swap_turns.specs.Telling.{IsProgress}
use Rattle.swap_turns.specs.Turning.{Outcome, Unwritten, Stopped, TurnSteps, Leaves, IfGoesOn, IsOutcomeCaused, open_after}
use Rattle.swap_mgr.specs.declared.progress.NotOpened.{NotOpened}
use Rattle.swap_mgr.specs.declared.progress.NotOpened.TheVariants as unopened
use Rattle.swap_turns.specs.declared.progress.Progress.{Progress}
use Rattle.swap_turns.specs.declared.progress.Progress.TheVariants as progress
use Rattle.swap_mgr.specs.Open.{HasOpen}

-- an open swap goes forth or is undone, and is no settling
abbrev pub IsPlain : Leg → Type 0
IsPlain Settling = ⊥
IsPlain leg = Unit {0}

-- THE MANAGER HOLDS exactly the states of these open swaps
pub record Holds (swaps : List Live) (opens : List (OpenSwap × Live)) : Type 0 where
  pub listed_of : (x : Live) → Has swaps x → (o : OpenSwap) × Has opens (o, x)
  pub stands : (q : OpenSwap × Live) → Has opens q → Has swaps q.1
  pub count : length opens ≡ length swaps
  pub plain : (q : OpenSwap × Live) → Has opens q → IsPlain q.0.leg

-- AT WORK in that lab, with these and no other open swaps
pub record IsManagingFor (t : Texts) (told : Option Told) (j : Journal) (s : LabState) (swaps : List Live) : Type 0 where
  pub opens : List (OpenSwap × Live)
  pub working : Working t told j s opens
  pub holds : Holds swaps opens

-- in some lab
pub record IsManaging (told : Option Told) (j : Journal) (swaps : List Live) : Type 0 where
  pub texts : Texts
  pub lab : LabState
  pub opens : List (OpenSwap × Live)
  pub working : Working texts told j lab opens
  pub holds : Holds swaps opens

-- the controller goes on, by what is told
abbrev pub GoesOnBy : Progress → Type 0 → Type 0
GoesOnBy (progress.Stuck whats.Journal) P = Unit {0}
GoesOnBy progress.Stopped P = Unit {0}
GoesOnBy told P = P

-- AFTER A TURN BY NAME: one of the open swaps made it, and it stands in its place again while it is open; each other is as it was
pub record HasTurned (t : Texts) (s : LabState) (opens : List (OpenSwap × Live)) (exp : List ℕ) (was now : Seen) (j k : Journal) (told : Progress) (new : List Live) : Type 0 where
  pub before : List (OpenSwap × Live)
  pub behind : List (OpenSwap × Live)
  pub swap : OpenSwap
  pub state : Live
  pub opens_are : opens ≡ before ++ (swap, state) ∷ behind
  pub named : swap.swap.name ≡ exp
  pub outcome : Outcome
  pub steps : List Event
  pub told_is : now.told ≡ with_steps was.told steps
  pub is_told : IsProgress swap told outcome
  pub leaves : Leaves t s swap was now k steps outcome
  pub sound : IfSome was.told (λ w. IsSound t w.trace → IsSound t (w.trace ++ steps))
  pub later : IsLater was now
  pub cause : IsOutcomeCaused outcome was now
  pub longer : IfGoesOn outcome (IsLonger j k steps)
  pub next : List (OpenSwap × Live)
  pub next_is : map (λ q. q.0) next ≡ listed (open_after swap steps outcome)
  pub holds : Holds new (before ++ (next ++ behind))
  pub all : IfGoesOn outcome ((after : LabState) × TurnSteps s swap steps outcome after × Working t now.told k after (before ++ (next ++ behind)))

-- AFTER IT WAS TURNED TO ITS END, with none between: it is gone, and each other is as it was
pub record HasTurnedToEnd (t : Texts) (s : LabState) (opens : List (OpenSwap × Live)) (exp : List ℕ) (was now : Seen) (j k : Journal) (told : Progress) (new : List Live) : Type 0 where
  pub before : List (OpenSwap × Live)
  pub behind : List (OpenSwap × Live)
  pub swap : OpenSwap
  pub state : Live
  pub opens_are : opens ≡ before ++ (swap, state) ∷ behind
  pub named : swap.swap.name ≡ exp
  pub finished : HasFinished t s swap was now j k (λ at outcome. IsProgress at told outcome)
  pub holds : Holds new (before ++ behind)
  pub all : IfGoesOn finished.outcome ((after : LabState) × Finishes s swap finished.steps finished.outcome after × Working t now.told k after (before ++ behind))

-- WHY A SWAP IS NOT OPENED, each exactly where it holds
abbrev pub IsAnsweredBy : List Live → List ℕ → Result (Unit {0}) NotOpened → Type 0
IsAnsweredBy old exp (Err (unopened.Busy name)) = (name ≡ exp) × HasOpen old exp
IsAnsweredBy old exp (Err (unopened.TooManyOpen n)) = (n ≡ 16) × (n ≤ length old) × (HasOpen old exp → ⊥)
IsAnsweredBy old exp result = (length old < 16) × (HasOpen old exp → ⊥)

-- these refusals send nothing
abbrev pub IfNothingSent : Result (Unit {0}) NotOpened → Type 0 → Type 0
IfNothingSent (Err (unopened.Busy name)) P = P
IfNothingSent (Err (unopened.TooManyOpen n)) P = P
IfNothingSent result P = Unit {0}

-- and after the others Begin was sent
abbrev pub IfSent : Result (Unit {0}) NotOpened → Type 0 → Type 0
IfSent (Ok done) P = P
IfSent (Err (unopened.Stuck what)) P = P
IfSent (Err unopened.Stopped) P = P
IfSent result P = Unit {0}

-- the plant stopped
abbrev pub IsStopOpening : Result (Unit {0}) NotOpened → Type 0
IsStopOpening (Err unopened.Stopped) = Unit {0}
IsStopOpening result = ⊥

-- how the turn that appends Begin is told
abbrev pub IsToldBy : Turned Plans → Result (Unit {0}) NotOpened → Type 0
IsToldBy (turned.Next state) (Ok done) = Unit {0}
IsToldBy (turned.Stuck plans what) (Err (unopened.Stuck other)) = other ≡ what
IsToldBy turned.Stopped (Err unopened.Stopped) = Unit {0}
IsToldBy turn result = ⊥

-- A SWAP THAT WAS OPENED is one more
pub record HasOpened (t : Texts) (opens : List (OpenSwap × Live)) (p : Swap) (s u : LabState) (begin : Record) (move : Move) (was now : Seen) (j k : Journal) (new : List Live) : Type 0 where
  pub state : Live
  pub begun : HasBegun t p s u begin move was now j k state
  pub holds : Holds new (opens ++ (opened p, state) ∷ [])
  pub all : Working t now.told k u (opens ++ (opened p, state) ∷ [])

-- AFTER BEGIN WAS SENT
abbrev pub IsAfterOpening : Texts → List (OpenSwap × Live) → Swap → LabState → LabState → Record → Move → Seen → Seen → Journal → Journal → List Live → Result (Unit {0}) NotOpened → Type 0
IsAfterOpening t opens p s u begin move was now j k new (Ok done) = HasOpened t opens p s u begin move was now j k new
IsAfterOpening t opens p s u begin move was now j k new (Err (unopened.Stuck what)) = (what ≡ whats.Journal) × HasNotBegun t s begin move missed Unwritten was now
IsAfterOpening t opens p s u begin move was now j k new (Err unopened.Stopped) = HasNotBegun t s begin move nothing Stopped was now
IsAfterOpening t opens p s u begin move was now j k new result = Unit {0}

-- an open swap of that name is among them
pub record IsAmong (opens : List (OpenSwap × Live)) (exp : List ℕ) : Type 0 where
  pub swap : OpenSwap × Live
  pub stands : Has opens swap
  pub named : swap.0.swap.name ≡ exp
