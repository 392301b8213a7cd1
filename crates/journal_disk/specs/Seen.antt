-- Both sides as an opening reads them.
use Rattle.std.specs.Prelude.{◌≡◌, ℕ, nat_lt, List, length, Option, IfSome}
use Rattle.plant.specs.Disks.{disk}
use Rattle.plant.specs.Sides.{of_side}
use Rattle.plant.specs.Told.{Told}
use Rattle.plant.specs.declared.step.Side.{Side}
use Rattle.plant.specs.declared.step.Side.TheVariants.{A, B}
use Rattle.journal_model.specs.Journals.{head, live}
use Rattle.journal_disk.specs.Heads.{seen_live}
use Rattle.journal_disk.specs.declared.heads.LiveSide.TheVariants.{On}
use Rattle.journal_disk.specs.declared.sides.Sides.{Sides}

-- The sides have these bytes: all of them are known where something is told of the disk. By them the journal stands where it says,
-- and a live side is there whole.
pub record AreSeen (told : Option Told) (sides : Sides) : Type 0 where
  pub a : List ℕ
  pub b : List ℕ
  pub reads : IfSome told (λ t. (a ≡ (disk A t.trace).reads) × (b ≡ (disk B t.trace).reads))
  pub live_side : seen_live (live (head a) (head b)) ≡ sides.live_side
  pub is_short : sides.is_short ≡ nat_lt (length a) 18
  pub whole : (side : Side) → sides.live_side ≡ On side → sides.live.items ≡ of_side side a b
