-- The replay of records.
use Rattle.std.specs.Prelude.{◌≡◌, ℕ, List, map, Result, Ok, Err}
use Rattle.journal_rec.specs.declared.record.Found.{Found}
use Rattle.journal_rec.specs.declared.record.Record.{Record}
use Rattle.records_model.specs.Labs.{LabState, at_first, Follows, CannotFollow, StopsAt}
use Rattle.lab_state.specs.declared.fault.ReplayFault.{ReplayFault}
use Rattle.lab_state.specs.declared.fault.ReplayFault.TheVariants as faults
use Rattle.lab_state.specs.Texts.{the_texts}

-- the records, without their places
abbrev pub records_of : List Found → List Record
records_of founds = map (λ found. found.entry) founds

-- the record of that number follows; or it can't; or Memory
abbrev pub IsFollowed : {X : Type 0} → LabState → Record → ℕ → Result X ReplayFault → LabState → Type 0
IsFollowed s entry n (Ok x) after = Follows the_texts s entry after
IsFollowed s entry n (Err (faults.Bad index)) after = (index ≡ n) × CannotFollow the_texts s entry
IsFollowed s entry n (Err faults.Memory) after = Unit {0}

-- where the answer is Bad the record of its number is the first that can't follow
abbrev pub IsStopped : {X : Type 0} → List Record → Result X ReplayFault → Type 0
IsStopped records (Ok x) = Unit {0}
IsStopped records (Err (faults.Bad index)) = StopsAt the_texts at_first records index
IsStopped records (Err faults.Memory) = Unit {0}
