-- The lab of two sides over another lab's text.
use Rattle.std.specs.Prelude.{◌≡◌, ◌⊎◌, ℕ, List, [], Some, None, Ok, Err, length}
use Rattle.phys_lab.specs.Labs.{Lab}
use Rattle.virt_topo.specs.declared.experiment.Experiment.{Experiment}
use Rattle.plant.specs.declared.step.Side.{Side}
use Rattle.plant.specs.declared.step.Side.TheVariants.{A}
use Rattle.journal_model.specs.Journals.{head, live, New}
use Rattle.records_model.specs.Labs.{LabState}
use Rattle.ptop_text.specs.Adding.{lab_of_text}
use Rattle.lab_state.specs.Texts.{the_texts}
use Rattle.lab_sides.specs.declared.walking.Walked.{Walked}
use Rattle.lab_look.specs.Looks.{HasLab}
use Rattle.lab_look.specs.Shows.{IsBad}
use Rattle.lab_grow.specs.Carried.{IsGrown}
use Rattle.lab_grow.specs.Named.{AreStaying}
use Rattle.lab_grow.specs.Reasons.{StandsInTheWay}
use Rattle.lab_grow.specs.Sides.{IsSideOver}
use Rattle.lab_grow.specs.declared.sides.Carried.{Carried}
use Rattle.lab_grow.specs.declared.sides.Carried.TheVariants as outcomes

-- both sides are a journal with that lab and experiments
pub record IsOver (a b : List ℕ) (s : LabState) (old : Lab) : Type 0 where
  pub side : Side
  pub walked : Walked
  pub stands : HasLab a b side walked s
  pub old_is : s.lab ≡ Some old

-- both sides have no lab
abbrev pub HaveNoLab : List ℕ → List ℕ → Type 0
HaveNoLab a b = (live (head a) (head b) ≡ New) ⊎ ((side : Side) × (w : Walked) × (s : LabState) × HasLab a b side w s × (s.lab ≡ None))

-- A SIDE IS MADE: the old lab's experiments are grown to the new one, each wants the rows that it wanted, and a look at the side finds just that lab
pub record IsMade (old new : Lab) (es : List Experiment) (text : List ℕ) (count : ℕ) : Type 0 where
  pub after : LabState
  pub grown : IsGrown the_texts old new es after
  pub stay : AreStaying old new es after.experiments
  pub written : IsSideOver old new es text
  pub found : (w : Walked) × HasLab text [] A w after
  pub count_is : count ≡ length after.experiments

-- what comes of experiments over a new lab; and over that of a text
abbrev pub Comes : Lab → Lab → List Experiment → Carried → Type 0
Comes old new es (outcomes.Side text count) = IsMade old new es text count
Comes old new es (outcomes.Refused exp obstacle) = StandsInTheWay old new es exp
Comes old new es outcome = ⊥

abbrev pub ComesOf : Lab → List ℕ → List Experiment → Carried → Type 0
ComesOf old ptop es (outcomes.Faulty fault) = lab_of_text ptop ≡ Err fault
ComesOf old ptop es outcome = (new : Lab) × (lab_of_text ptop ≡ Ok new) × Comes old new es outcome

-- WHAT COMES OF BOTH SIDES OVER A TEXT, exactly
abbrev pub IsCarried : List ℕ → List ℕ → List ℕ → Carried → Type 0
IsCarried a b ptop outcomes.NoLab = HaveNoLab a b
IsCarried a b ptop (outcomes.Bad side at) = IsBad a b side at
IsCarried a b ptop outcome = (s : LabState) × (old : Lab) × IsOver a b s old × ComesOf old ptop s.experiments outcome
