-- The journal that an opening finds, and the states of side A while a new journal is made.
use Rattle.std.specs.Prelude.{ℕ, ◌≡◌, List}
use Rattle.plant.specs.Disks.{at_once, disk}
use Rattle.plant.specs.Events.{Event}
use Rattle.plant.specs.Worlds.{world_of}
use Rattle.plant.specs.declared.step.Side.{Side}
use Rattle.plant.specs.declared.step.Side.TheVariants.{A, B}
use Rattle.journal_rec.specs.declared.record.Record.{Record}
use Rattle.lab_model.specs.Sound.{Keeps}
use Rattle.journal_model.specs.Journals.{Blank, head}
use Rattle.records_model.specs.Labs.{LabState, Texts, at_first}
use Rattle.records_model.specs.Appends.{standing}
use Rattle.records_model.specs.Works.{AtWork}

-- what is known while a journal is made
pub record Blanks (trace : List Event) : Type 0 where
  pub other : List ℕ
  pub there : disk B trace ≡ at_once other
  pub blank_there : head other ≡ Blank
  pub keeps : Keeps (world_of trace) (standing at_first 0)

-- what an opening finds: a new journal, or a live side with its records
pub data Finds (t : Texts) (trace : List Event) : Type 0 where
  nothing : Blanks trace → (bytes : List ℕ) → disk A trace ≡ at_once bytes → head bytes ≡ Blank → Finds t trace
  works : (side : Side) (rs : List Record) (s : LabState) → AtWork t trace side rs s → Finds t trace
