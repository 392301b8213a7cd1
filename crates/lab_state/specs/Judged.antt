-- The outcomes of judging a record.
use Rattle.std.specs.Prelude.{◌≡◌, true, false, List, Some, Result, Ok, Err}
use Rattle.phys_lab.specs.Labs.{Lab}
use Rattle.virt_topo.specs.declared.experiment.Experiment.{Experiment}
use Rattle.virt_topo.specs.declared.mapping.Mapped.{Mapped}
use Rattle.journal_rec.specs.declared.record.Record.{Record}
use Rattle.records_model.specs.Labs.{LabState, Follows, CannotFollow, can_take}
use Rattle.lab_state.specs.declared.fault.PrepareFault.{PrepareFault}
use Rattle.lab_state.specs.declared.fault.PrepareFault.TheVariants as faults
use Rattle.claims.specs.Holds.{claim_of}
use Rattle.lab_state.specs.declared.prepared.Change.{Change}
use Rattle.lab_state.specs.declared.prepared.Change.TheVariants.{Begin}
use Rattle.lab_state.specs.Moves.{moving}
use Rattle.lab_state.specs.Texts.{the_texts}
use Rattle.lab_state.specs.Changes.{Fits, after}

-- the record can follow, gives the state after that change, and the change fits
pub record CanFollow (s : LabState) (entry : Record) (change : Change) : Type 0 where
  pub follows : Follows the_texts s entry (after s change)
  pub fits : Fits s change

-- Ok exactly where the record can follow, else Bad; or Memory
abbrev pub IsJudged : LabState → Record → Result Change PrepareFault → Type 0
IsJudged s entry (Ok change) = CanFollow s entry change
IsJudged s entry (Err faults.Bad) = CannotFollow the_texts s entry
IsJudged s entry (Err faults.Memory) = Unit {0}

-- the experiment can take the mapping and begins to move there, or it can't; or Memory
abbrev pub IsTaken : Lab → List Experiment → Experiment → Mapped → Result Change PrepareFault → Type 0
IsTaken lab es e new (Ok change) = (can_take lab es e new ≡ true) × (let f = moving e (Some new) in change ≡ Begin f (claim_of lab f))
IsTaken lab es e new (Err faults.Bad) = can_take lab es e new ≡ false
IsTaken lab es e new (Err faults.Memory) = Unit {0}
