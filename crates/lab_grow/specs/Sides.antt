-- The side of a journal of a grown lab.
use Rattle.std.specs.Prelude.{◌≡◌, ℕ, List, [], ◌∷◌, ◌++◌}
use Rattle.lab_base.specs.Lists.{Has}
use Rattle.phys_lab.specs.Labs.{Lab}
use Rattle.plant.specs.declared.step.Side.TheVariants.{A}
use Rattle.virt_topo.specs.declared.experiment.Experiment.{Experiment}
use Rattle.journal_rec.specs.declared.record.Found.{Found}
use Rattle.journal_rec.specs.Payloads.{IsRecord}
use Rattle.journal_rec.specs.Packing.{ArePacked}
use Rattle.records_model.specs.Labs.{LabState, LabOf}
use Rattle.lab_state.specs.Replays.{records_of}
use Rattle.lab_state.specs.Texts.{the_texts}
use Rattle.lab_sides.specs.declared.walking.Walked.{Walked}
use Rattle.lab_look.specs.Looks.{HasLab}
use Rattle.lab_grow.specs.Carried.{IsGrown, grown_records}
use Rattle.lab_grow.specs.declared.growing.Grown.{Grown}
use Rattle.lab_grow.specs.declared.growing.Grown.TheVariants as grows

-- the header of a journal of epoch 1, up to the gate of its first record
abbrev pub first_header : List ℕ
first_header = 165 ∷ 76 ∷ 65 ∷ 66 ∷ 74 ∷ 82 ∷ 78 ∷ 76 ∷ 49 ∷ 1 ∷ 0 ∷ 0 ∷ 0 ∷ 0 ∷ 0 ∷ 0 ∷ 0 ∷ []

-- a side of epoch 1 with the records that are written
abbrev pub IsSideOver : Lab → Lab → List Experiment → List ℕ → Type 0
IsSideOver old new es text = (packed : List ℕ) × ArePacked packed (grown_records the_texts old new es) × (text ≡ first_header ++ packed)

-- a side that a look finds to be a journal of the grown lab; or the records, which can't follow each other
abbrev pub IsGrowth : Lab → Lab → LabState → Grown → Type 0
IsGrowth old new s (grows.Lab text g) = IsGrown the_texts old new s.experiments g.state × IsSideOver old new s.experiments text × ((w : Walked) × HasLab text [] A w g.state)
IsGrowth old new s (grows.Refused found) = (records_of found ≡ grown_records the_texts old new s.experiments)
    × ((f : Found) → Has found f → IsRecord f.entry) × ((end : LabState) → LabOf the_texts (records_of found) end → ⊥)
