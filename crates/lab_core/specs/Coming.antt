-- A LIST OF COMMANDS from where it began, of what is seen of a plant.
use Rattle.std.specs.Prelude.{ℕ, List}
use Rattle.plant.specs.Seen.{Seen}
use Rattle.journal_disk.specs.Standing.{length_of, limit_of}
use Rattle.lab_core.specs.Controller.{Control}
use Rattle.lab_core.specs.Sessions.{OpenSwap}
use Rattle.lab_core.specs.Lists.{Listing, Lists, Ground, Past}
use Rattle.lab_core.specs.Obey.{Doing, Wanting}

-- where a list began: what was seen of the plant, the controller with its open swaps, the place, and the count at which its swaps are opened
pub record Origin (X : Type 0) : Type 0 where
  pub before : Seen
  pub old : Control
  pub opens : List OpenSwap
  pub start : X
  pub devices : ℕ

abbrev pub ground_of : {X : Type 0} → Origin X → Ground
ground_of o = record { length = length_of o.old.journal; limit = limit_of o.old.journal; devices = o.devices }

-- all of them were done, or as far as it came where memory was wanting
abbrev pub AllDone : {X : Type 0} → Listing X → Origin X → Doing
AllDone l o trace own after = Lists l (ground_of o) trace o.start o.old.lab o.opens own after

abbrev pub AllWants : {X : Type 0} → Listing X → Origin X → Wanting
AllWants {X} l o trace own lab to = (at : X) × Past l (ground_of o) trace o.start o.old.lab o.opens own at lab to
