-- The heads of sides, with epochs as numbers, and where the journal stands by them.
use Rattle.std.specs.Prelude.{ℕ, ◌==◌, nat_lt, if◌then◌else◌}
use Rattle.plant.specs.declared.step.Side.TheVariants.{A, B}
use Rattle.journal_rec.specs.Payloads.{number}
use Rattle.journal_model.specs.Journals.{Live}
use Rattle.journal_model.specs.Journals as journals
use Rattle.journal_disk.specs.declared.heads.Head.{Head}
use Rattle.journal_disk.specs.declared.heads.Head.TheVariants.{Blank, Foreign, Headed}
use Rattle.journal_disk.specs.declared.heads.LiveSide.{LiveSide}
use Rattle.journal_disk.specs.declared.heads.LiveSide.TheVariants.{New, On, Wrong}

abbrev pub seen : journals.Head → Head
seen journals.Blank = Blank
seen journals.Foreign = Foreign
seen (journals.Headed epoch) = Headed (number epoch)

abbrev pub seen_live : Live → LiveSide
seen_live journals.New = New
seen_live (journals.On side) = On side
seen_live (journals.Wrong side) = Wrong side

-- where the journal stands, by both heads
abbrev pub later : ℕ → ℕ → LiveSide
later m n = if m == n then Wrong A else if nat_lt n m then On A else On B

abbrev pub place_of : Head → Head → LiveSide
place_of Foreign b = Wrong A
place_of Blank Foreign = Wrong B
place_of (Headed m) Foreign = Wrong B
place_of Blank Blank = New
place_of Blank (Headed n) = On B
place_of (Headed m) Blank = On A
place_of (Headed m) (Headed n) = later m n
