-- A controller as contracts see it, and when it is at work.
use Rattle.std.specs.Prelude.{◌≡◌, List, map, Option}
use Rattle.lab_base.specs.Lists.{Has}
use Rattle.plant.specs.Seen.{Seen}
use Rattle.plant.specs.Told.{Told}
use Rattle.journal_disk.specs.declared.journal.Journal.{Journal}
use Rattle.lab_state.specs.Texts.{the_texts}
use Rattle.records_model.specs.Labs.{LabState}
use Rattle.swap_mgr.specs.Managing.{Holds}
use Rattle.swap_txn.specs.declared.live.Live.{Live}
use Rattle.swap_turns.specs.Running.{AtWork, Working}
use Rattle.swap_turns.specs.Running as running
use Rattle.lab_core.specs.Sessions.{OpenSwap, IsSince}

-- WHAT CONTRACTS SEE OF A CONTROLLER: its lab, its journal, and the states of its open swaps
pub record Control : Type 0 where
  pub lab : LabState
  pub journal : Journal
  pub swaps : List Live

abbrev pub control : LabState → Journal → List Live → Control
control lab journal swaps = record { lab = lab; journal = journal; swaps = swaps }

-- IT WORKS, over what its plant tells: its lab is that of the journal's records, and there is room for the last records of all experiments that move
abbrev pub Works : Option Told → Control → Type 0
Works told c = AtWork the_texts told c.journal c.lab

-- IT WORKS WITH THESE OPEN SWAPS, and no other: each has its state, runs as if no other did, and failed no device but since it was opened
pub record WorksWith (now : Seen) (c : Control) (opens : List OpenSwap) : Type 0 where
  pub pairs : List (running.OpenSwap × Live)
  pub are : map (λ q. q.0) pairs ≡ map (λ o. o.running) opens
  pub working : Working the_texts now.told c.journal c.lab pairs
  pub holds : Holds c.swaps pairs
  pub since : (o : OpenSwap) → Has opens o → IsSince now.faults.devices o

-- with some
abbrev pub CanWork : Seen → Control → Type 0
CanWork now c = (opens : List OpenSwap) × WorksWith now c opens
