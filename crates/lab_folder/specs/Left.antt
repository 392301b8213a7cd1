-- Folders between runs.
use Rattle.std.specs.Prelude.{ℕ, List}
use Rattle.records_model.specs.Works.{IsSound}
use Rattle.lab_state.specs.Texts.{the_texts}
use Rattle.folder.specs.Folders.{Held, Old}
use Rattle.folder.specs.Lost.{Lost}
use Rattle.plant_file.specs.Standing.{Keeps}
use Rattle.plant_file.specs.Stops.{IsStop}

-- A FOLDER AS A RUN LEAVES IT, and finds it: its text stands for what the devices hold, and its past is sound
pub record IsLeft (h : Held) : Type 0 where
  pub keeps : Keeps h
  pub sound : IsSound the_texts h.past.trace

-- A LOSS OF POWER, or a kill, leaves it so, and as a stop would have left it at the moment of the text that is left
abbrev pub LossesAreLeft : Type 0
LossesAreLeft = (h now : Held) (old : Old) (a b : List ℕ) → IsLeft h → Lost h old a b now → IsLeft now × IsStop h old a b now
