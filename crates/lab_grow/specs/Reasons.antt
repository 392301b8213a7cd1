-- Who stands in the way.
use Rattle.std.specs.Prelude.{◌≡◌, ℕ, List, take, slice_get, Option, Some, None}
use Rattle.phys_lab.specs.Labs.{Lab}
use Rattle.virt_topo.specs.declared.experiment.Experiment.{Experiment}
use Rattle.journal_rec.specs.declared.record.Record.{Record}
use Rattle.journal_rec.specs.declared.record.Record.TheVariants.{Lab as LabRecord, Create, Delete, Begin, Commit, Abort, Create2}
use Rattle.records_model.specs.Labs.{LabState, at_first, LabOf, StopsAt}
use Rattle.lab_state.specs.Texts.{the_texts}
use Rattle.lab_grow.specs.Carried.{IsAtRest, AreAtRest, grown_records}
use Rattle.lab_grow.specs.Named.{StaysIn, AreStaying}

-- the experiment that a record is of
abbrev pub exp_of : Record → Option (List ℕ)
exp_of (LabRecord ptop) = None
exp_of (Create exp top) = Some exp
exp_of (Delete exp) = Some exp
exp_of (Begin exp way) = Some exp
exp_of (Commit exp) = Some exp
exp_of (Abort exp) = Some exp
exp_of (Create2 exp top) = Some exp

-- the record of that number is of that experiment; the first record that can't follow is
abbrev pub IsOf : List Record → ℕ → Option (List ℕ) → Type 0
IsOf rs n exp = (r : Record) × (slice_get rs n ≡ Some r) × (exp ≡ exp_of r)

abbrev pub IsStuck : List Record → Option (List ℕ) → Type 0
IsStuck rs exp = (n : ℕ) × StopsAt the_texts at_first rs n × IsOf rs n exp

-- the first experiment that moves has that name
abbrev pub IsMoving : List Experiment → List ℕ → Type 0
IsMoving es name = (n : ℕ) × (e : Experiment) × (slice_get es n ≡ Some e) × AreAtRest (take n es) × (IsAtRest e.phase → ⊥) × (name ≡ e.name)

-- of these experiments and those over the new lab, the first one that wants other rows there has that name
abbrev pub IsOther : Lab → Lab → List Experiment → List Experiment → List ℕ → Type 0
IsOther old new es fs name = (n : ℕ) × (e f : Experiment) × (slice_get es n ≡ Some e) × (slice_get fs n ≡ Some f) × AreStaying old new (take n es) (take n fs)
    × (StaysIn old new e.wiring f.wiring e.phase f.phase → ⊥) × (name ≡ e.name)

-- WHO STANDS IN THE WAY: the first experiment that moves; or else that of the first record that can't follow; or else the first one that wants other
-- rows over the new lab than over the old one
pub data StandsInTheWay (old new : Lab) (es : List Experiment) : Option (List ℕ) → Type 0 where
  is_moving : (name : List ℕ) → IsMoving es name → StandsInTheWay old new es (Some name)
  is_stuck : (exp : Option (List ℕ)) → AreAtRest es → IsStuck (grown_records the_texts old new es) exp → StandsInTheWay old new es exp
  wants_other : (name : List ℕ) (end : LabState) → AreAtRest es → LabOf the_texts (grown_records the_texts old new es) end → IsOther old new es end.experiments name
      → StandsInTheWay old new es (Some name)
