-- The settling of all experiments that move, but the busy ones.
use Rattle.std.specs.Prelude.{◌≡◌, ◌≤◌, ◌+◌, ℕ, Bool, true, false, List, ◌++◌, count_by, take, drop, length, Result, Ok, Err}
use Rattle.plant.specs.Seen.{Seen}
use Rattle.journal_disk.specs.declared.journal.Journal.{Journal}
use Rattle.records_model.specs.Labs.{LabState, Texts}
use Rattle.swap_turns.specs.Settling.{HasSettled, HasBrokenOff}
use Rattle.swap_turns.specs.Swaps.{Swap}
use Rattle.swap_turns.specs.Turning.{Outcome, Ended, Stuck, Unwritten, Stopped}
use Rattle.recovery.specs.Due.{swaps_of}
use Rattle.recovery.specs.declared.all.Settled.{Settled}
use Rattle.recovery.specs.declared.fault.SettleFault.{SettleFault}
use Rattle.recovery.specs.declared.fault.SettleFault.TheVariants as faults
use Rattle.recovery.specs.declared.one.One.{One}
use Rattle.recovery.specs.declared.one.One.TheVariants as one

-- which settlings ended, and which were cut
abbrev pub is_ended : Outcome → Bool
is_ended (Ended leg) = true
is_ended outcome = false

abbrev pub is_stuck : Outcome → Bool
is_stuck (Stuck trouble) = true
is_stuck outcome = false

-- how many they are
pub record Counts (settled : Settled) (outcomes : List Outcome) : Type 0 where
  pub done : settled.done ≡ count_by is_ended outcomes
  pub stuck : settled.stuck ≡ count_by is_stuck outcomes

-- ALL THAT ARE TO BE SETTLED WERE
pub record SettledAll (t : Texts) (s : LabState) (busy : List (List ℕ)) (before now : Seen) (i j : Journal) (after : LabState) (settled : Settled) : Type 0 where
  pub outcomes : List Outcome
  pub has : HasSettled t s (swaps_of busy s.experiments) before now i j outcomes after
  pub counts : Counts settled outcomes

-- THE FIRST OF THEM WERE: memory was wanting before the next
pub record SettledSome (t : Texts) (s : LabState) (busy : List (List ℕ)) (before now : Seen) (i j : Journal) (after : LabState) : Type 0 where
  pub past : List Swap
  pub rest : List Swap
  pub all : swaps_of busy s.experiments ≡ past ++ rest
  pub outcomes : List Outcome
  pub has : HasSettled t s past before now i j outcomes after

-- AFTER A SETTLING of all: they were settled, or the first of them, or it broke off in one
abbrev pub AfterAll : Texts → LabState → List (List ℕ) → Seen → Seen → Journal → Journal → LabState → Result Settled SettleFault → Type 0
AfterAll t s busy before now i j after (Ok settled) = SettledAll t s busy before now i j after settled
AfterAll t s busy before now i j after (Err faults.Memory) = SettledSome t s busy before now i j after
AfterAll t s busy before now i j after (Err faults.Plant) = HasBrokenOff t s (swaps_of busy s.experiments) before now Unwritten
AfterAll t s busy before now i j after (Err faults.Stopped) = HasBrokenOff t s (swaps_of busy s.experiments) before now Stopped

-- of the first n experiments those that are due were settled, and the others are as they were
pub record SettledTo (t : Texts) (s : LabState) (busy : List (List ℕ)) (before now : Seen) (i j : Journal) (n : ℕ) (after : LabState) (settled : Settled) : Type 0 where
  pub outcomes : List Outcome
  pub has : HasSettled t s (swaps_of busy (take n s.experiments)) before now i j outcomes after
  pub rest : drop n after.experiments ≡ drop n s.experiments
  pub counts : Counts settled outcomes
  pub few : length outcomes ≤ n

-- counts one more
abbrev pub CountedBy : Settled → One → Settled → Type 0
CountedBy was (one.Stuck what) result = result ≡ record { done = was.done; stuck = was.stuck + 1 }
CountedBy was outcome result = result ≡ record { done = was.done + 1; stuck = was.stuck }
