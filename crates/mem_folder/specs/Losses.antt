-- A loss of power of a folder in memory, as its user chooses it.
use Rattle.std.specs.Prelude.{◌≡◌, ℕ, [], ◌∷◌, take, drop}
use Rattle.plant.specs.Disks.{disk}
use Rattle.plant.specs.declared.drill.Pick.{Pick}
use Rattle.plant.specs.declared.step.Side.TheVariants.{A, B}
use Rattle.folder.specs.Folders.{Held, Old}
use Rattle.folder.specs.Lost.{Lost, newest}
use Rattle.plant_mem.specs.Picks.{left_by}

-- the text that stands so many after the newest one
abbrev pub IsBack : ℕ → Held → Old → Type 0
IsBack back h old = take 1 (drop back (newest h ∷ h.older)) ≡ old ∷ []

-- THE LOSS leaves that text, and of each side what the pick leaves
abbrev pub IsLoss : Pick → ℕ → Held → Held → Type 0
IsLoss pick back h now = (old : Old) × IsBack back h old × Lost h old (left_by pick (disk A h.past.trace)) (left_by pick (disk B h.past.trace)) now
