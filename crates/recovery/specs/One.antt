-- The settling of one experiment.
use Rattle.std.specs.Prelude.{◌≡◌, ℕ, Bool, true, false, List, Option, Some, None, Result, Ok, Err, if◌then◌else◌}
use Rattle.lab_base.specs.declared.what.What.TheVariants as whats
use Rattle.phys_lab.specs.Labs.{Lab}
use Rattle.virt_topo.specs.declared.mapping.Mapped.{Mapped}
use Rattle.plant.specs.Seen.{Seen}
use Rattle.journal_disk.specs.declared.journal.Journal.{Journal}
use Rattle.lab_model.specs.Courses.{Trouble}
use Rattle.lab_model.specs.Holding.{Suits}
use Rattle.records_model.specs.Labs.{LabState, Texts, moved}
use Rattle.swap_txn.specs.Troubles.{what_of}
use Rattle.swap_txn.specs.declared.ended.Ended.{Ended as Over}
use Rattle.swap_turns.specs.Beginning.{settling}
use Rattle.swap_turns.specs.Legs.{Settling, commits, inside_by}
use Rattle.swap_turns.specs.Settling.{HasSettledOne}
use Rattle.swap_turns.specs.Swaps.{Swap, Moves}
use Rattle.swap_turns.specs.Telling.{IsProgress}
use Rattle.swap_turns.specs.Turning.{Outcome, Ended, Stuck, Unwritten, Stopped}
use Rattle.swap_turns.specs.declared.progress.Progress.{Progress}
use Rattle.swap_turns.specs.declared.progress.Progress.TheVariants as progress
use Rattle.lab_state.specs.Changes.{CanEnd, ending}
use Rattle.recovery.specs.declared.fault.SettleFault.{SettleFault}
use Rattle.recovery.specs.declared.fault.SettleFault.TheVariants as faults
use Rattle.recovery.specs.declared.one.One.{One}
use Rattle.recovery.specs.declared.one.One.TheVariants as one

-- the experiment moves
pub record IsMoving (s : LabState) (exp : List ℕ) : Type 0 where
  pub swap : Swap
  pub name : swap.name ≡ exp
  pub moves : Moves swap s

-- whether a settled experiment is in afterwards: a swap-out leads out, and an undo to where it was before
abbrev pub settles_in : Swap → Bool
settles_in p = inside_by p (commits p Settling)

-- HOW IT IS OVER, as the answer tells: the settling ended, on that side; it was cut by that trouble; its last record was not written; or the plant stopped
abbrev pub IsOverAs : Texts → LabState → Swap → Seen → Seen → Journal → Journal → LabState → Result One SettleFault → Type 0
IsOverAs t s p before now j k after (Ok one.Out) = (settles_in p ≡ false) × HasSettledOne t s p before now j k (Ended Settling) after
IsOverAs t s p before now j k after (Ok one.In) = (settles_in p ≡ true) × HasSettledOne t s p before now j k (Ended Settling) after
IsOverAs t s p before now j k after (Ok (one.Stuck what)) = (trouble : Trouble) × (what ≡ what_of trouble) × HasSettledOne t s p before now j k (Stuck trouble) after
IsOverAs t s p before now j k after (Err faults.Plant) = HasSettledOne t s p before now j k Unwritten after
IsOverAs t s p before now j k after (Err faults.Stopped) = HasSettledOne t s p before now j k Stopped after
IsOverAs t s p before now j k after (Err faults.Memory) = Unit {0}

-- what the experiment claims suits the lab
abbrev pub SuitsIf : Lab → Option Mapped → Type 0
SuitsIf lab None = Unit {0}
SuitsIf lab (Some m) = Suits lab m

-- turned to its end, it left that lab
abbrev pub IsFinishedAs : Texts → LabState → Swap → Seen → Seen → Journal → Journal → LabState → Progress → Type 0
IsFinishedAs t s p before now j k after end = (outcome : Outcome) × IsProgress (settling p) end outcome × HasSettledOne t s p before now j k outcome after

-- the end of the experiment's move can follow, and follows, where its swap came to its last record
abbrev pub CanEndBy : LabState → List ℕ → Option Over → Type 0
CanEndBy s exp (Some over) = CanEnd s exp over.committed
CanEndBy s exp None = Unit {0}

abbrev pub EndsBy : LabState → List ℕ → Option Over → LabState → Type 0
EndsBy s exp (Some over) after = moved s (ending exp over.committed) ≡ Some after
EndsBy s exp None after = after ≡ s

-- the answer of the end
abbrev pub side_of : Bool → One
side_of inside = if inside then one.In else one.Out

abbrev pub IsAnswerOf : Progress → Result One SettleFault → Type 0
IsAnswerOf (progress.Ended ended) result = result ≡ Ok (side_of ended.inside)
IsAnswerOf (progress.Stuck whats.Journal) result = result ≡ Err faults.Plant
IsAnswerOf (progress.Stuck what) result = result ≡ Ok (one.Stuck what)
IsAnswerOf progress.Stopped result = result ≡ Err faults.Stopped
IsAnswerOf end result = ⊥
