-- A stop of a folder at the moment of one of its texts.
use Rattle.std.specs.Prelude.{◌≡◌, ℕ, true, List, take, drop}
use Rattle.std.specs.List.{list_all}
use Rattle.plant.specs.Disks.{ArePossible}
use Rattle.plant.specs.Worlds.{world_of}
use Rattle.folder.specs.Folders.{Held, Old}
use Rattle.folder.specs.Lost.{Lost}
use Rattle.plant_file.specs.Standing.{Keeps, is_beside}

-- WHAT A STOP AT THE MOMENT OF THE TEXT LEAVES: the images were possible then, the devices hold what they held then, and no step of the journal has
-- come after it
pub record IsStop (h : Held) (old : Old) (a b : List ℕ) (now : Held) : Type 0 where
  pub possible : ArePossible (take old.at h.past.trace) a b
  pub world : world_of now.past.trace ≡ world_of (take old.at h.past.trace)
  pub beside : list_all is_beside (drop old.at h.past.trace) ≡ true

abbrev pub LossesAreStops : Type 0
LossesAreStops = (h now : Held) (old : Old) (a b : List ℕ) → Keeps h → Lost h old a b now → Keeps now × IsStop h old a b now
