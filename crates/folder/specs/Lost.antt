-- A folder after a kill or a loss of power.
use Rattle.std.specs.Prelude.{◌≡◌, ℕ, List, [], ◌∷◌, ◌++◌, length, take}
use Rattle.lab_base.specs.Lists.{Has}
use Rattle.plant.specs.Disks.{ArePossible}
use Rattle.plant.specs.Events.{Restarted}
use Rattle.folder.specs.Folders.{Held, Old}

-- the text as it reads, at this moment
abbrev pub newest : Held → Old
newest h = record { text = h.text; at = length h.past.trace }

-- A LOSS: the text that is left is the newest one, or an older one that may be left, and the sides have images that are possible. What the next
-- program finds is told by a past that goes to the moment of that text. A kill leaves the newest text
pub record Lost (h : Held) (old : Old) (a b : List ℕ) (now : Held) : Type 0 where
  pub left : Has (newest h ∷ h.older) old
  pub possible : ArePossible h.past.trace a b
  pub text : now.text ≡ old.text
  pub trace : now.past.trace ≡ take old.at h.past.trace ++ Restarted a b ∷ []
  pub older : now.older ≡ []

-- nothing is in it, and nothing happened to it
abbrev pub blank : Held
blank = record { past = record { trace = []; marks = []; drills = [] }; text = []; older = [] }
