-- The lab of two sides.
use Rattle.std.specs.Prelude.{◌≡◌, ℕ, List, map, slice_get, Some}
use Rattle.plant.specs.declared.step.Side.{Side}
use Rattle.journal_rec.specs.declared.record.Record.{Record}
use Rattle.journal_model.specs.Journals.{head, live, New}
use Rattle.records_model.specs.Labs.{LabState, at_first, LabOf, StopsAt}
use Rattle.lab_state.specs.Texts.{the_texts}
use Rattle.lab_sides.specs.declared.walking.Walked.{Walked}
use Rattle.lab_sides.specs.Reads.{Stands, HasFault}
use Rattle.lab_look.specs.declared.looked.Looked.{Looked}
use Rattle.lab_look.specs.declared.looked.Looked.TheVariants as looks

-- the journal on that side, with the lab of its records
pub record HasLab (a b : List ℕ) (side : Side) (w : Walked) (s : LabState) : Type 0 where
  pub rs : List Record
  pub stands : Stands a b side w rs
  pub lab_is : LabOf the_texts rs s

-- the journal on that side has a record that can't follow; the first such one stands at that gate
pub record HasWrong (a b : List ℕ) (side : Side) (at : ℕ) (w : Walked) : Type 0 where
  pub rs : List Record
  pub stands : Stands a b side w rs
  pub index : ℕ
  pub stops : StopsAt the_texts at_first rs index
  pub place : slice_get (map (λ f. f.at) w.found) index ≡ Some at

-- WHAT A LOOK AT TWO SIDES FINDS: nothing yet; a journal with its lab; or none: a fault with the records before it, or a record that can't follow
abbrev pub IsLook : List ℕ → List ℕ → Looked → Type 0
IsLook a b looks.New = live (head a) (head b) ≡ New
IsLook a b (looks.Found side w s) = HasLab a b side w s.state
IsLook a b (looks.Bad side at before) = HasFault a b side at before
IsLook a b (looks.Wrong side at w) = HasWrong a b side at w
