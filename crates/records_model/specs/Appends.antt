-- The steps that an append adds to a trace, and the labs that the images of a trace stand for.
use Rattle.std.specs.Prelude.{◌≡◌, ℕ, List}
use Rattle.journal_rec.specs.declared.record.Record.{Record}
use Rattle.lab_model.specs.Sound.{Standing}
use Rattle.journal_model.specs.Journals.{Records, journal_length}
use Rattle.records_model.specs.Labs.{LabState, Texts, LabOf, lab_in}

-- what the lab of a state is to the world, with the journal's length
abbrev pub standing : LabState → ℕ → Standing
standing s size = record { lab = lab_in s.lab; experiments = s.experiments; size = size }

-- THE TWO SIDES STAND FOR that lab
pub record StandFor (t : Texts) (a b : List ℕ) (s : Standing) : Type 0 where
  pub records : List Record
  pub read : Records a b records
  pub state : LabState
  pub lab_of : LabOf t records state
  pub is : s ≡ standing state (journal_length a b records)
