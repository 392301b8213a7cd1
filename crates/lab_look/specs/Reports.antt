-- The sides of a journal record by record, and whether they show damage.
use Rattle.std.specs.Prelude.{◌≡◌, ℕ, Bool, true, false, ◌&&◌, ◌||◌, not, nat_lt, is_some, List, length, Option, Some, None}
use Rattle.plant.specs.Sides.{of_side}
use Rattle.journal_rec.specs.declared.record.Found.{Found}
use Rattle.journal_model.specs.Journals.{head, live, New}
use Rattle.records_model.specs.Labs.{LabState}
use Rattle.journal_disk.specs.declared.heads.Head.{Head}
use Rattle.journal_disk.specs.declared.heads.Head.TheVariants.{Blank, Headed}
use Rattle.journal_disk.specs.Heads.{seen}
use Rattle.lab_state.specs.Replays.{records_of}
use Rattle.lab_sides.specs.Heads.{shut_head, is_cut}
use Rattle.lab_sides.specs.Walks.{AreThere}
use Rattle.lab_sides.specs.Reads.{HasFault}
use Rattle.lab_look.specs.declared.report.SideReport.{SideReport}
use Rattle.lab_look.specs.declared.report.Standing.{Standing}
use Rattle.lab_look.specs.declared.report.Standing.TheVariants as standings
use Rattle.lab_look.specs.declared.report.Report.{Report}
use Rattle.lab_look.specs.declared.beside.Beside.{Beside}
use Rattle.lab_look.specs.declared.beside.Beside.TheVariants.{Lost}
use Rattle.lab_look.specs.declared.tables.TablesSeen.{TablesSeen}
use Rattle.lab_look.specs.Beside.{is_next, IsBeside}
use Rattle.lab_look.specs.Looks.{HasLab, HasWrong}

abbrev pub is_headed : Head → Bool
is_headed (Headed n) = true
is_headed head = false

abbrev pub is_blank : Head → Bool
is_blank Blank = true
is_blank head = false

-- a header stands behind a closed header gate
abbrev pub is_shut : List ℕ → Bool
is_shut bytes = is_headed (shut_head bytes) && is_blank (seen (head bytes))

-- the whole records after such a header
abbrev pub IsShut : List ℕ → Option (List Found) → Type 0
IsShut bytes None = (is_shut bytes && nat_lt 17 (length bytes)) ≡ false
IsShut bytes (Some found) = (is_shut bytes ≡ true) × AreThere bytes 17 found

-- what a side holds
pub record IsSideReport (bytes : List ℕ) (r : SideReport) : Type 0 where
  pub bytes_are : r.bytes ≡ length bytes
  pub head_is : r.head ≡ seen (head bytes)
  pub cut_is : r.cut ≡ is_cut bytes
  pub shut_is : IsShut bytes r.shut

-- where the journal stands, the whole records behind its closed gate, and what stands on the other side
abbrev pub IsStanding : List ℕ → List ℕ → Standing → Type 0
IsStanding a b standings.New = live (head a) (head b) ≡ New
IsStanding a b (standings.On side w found beside) = (s : LabState) × HasLab a b side w s × AreThere (of_side side a b) w.gate found
    × IsBeside (of_side side a b) (of_side side b a) (records_of w.found) beside
IsStanding a b (standings.Bad side at before) = HasFault a b side at before
IsStanding a b (standings.Wrong side at w) = HasWrong a b side at w

-- WHAT BOTH SIDES HOLD
pub record IsReport (a b : List ℕ) (r : Report) : Type 0 where
  pub first : IsSideReport a r.a
  pub second : IsSideReport b r.b
  pub stands : IsStanding a b r.standing

-- there are some; there are two or more
abbrev pub has_some : Option (List Found) → Bool
has_some None = false
has_some (Some found) = nat_lt 0 (length found)

abbrev pub has_more : List Found → Bool
has_more found = nat_lt 1 (length found)

-- the side beside the live one has lost its header gate
abbrev pub is_lost : Beside → Bool
is_lost Lost = true
is_lost beside = false

abbrev pub has_lost : Standing → Bool
has_lost (standings.On side w found beside) = is_lost beside
has_lost standing = false

-- A SIDE SHOWS DAMAGE: it is cut in its header; or records stand after its closed header, and the other side has no header. With one, see there
abbrev pub is_side_damaged : SideReport → SideReport → Bool
is_side_damaged own other = own.cut || (has_some own.shut && not (is_headed other.head))

-- WHERE THE JOURNAL STANDS SHOWS DAMAGE: it is none; or two or more whole records stand behind its closed gate, since one is what a kill in
-- an append leaves; or the side beside it is of a later epoch, and no move that was cut off; or it is on no side yet, and the tables have lines
abbrev pub is_standing_damaged : Bool → Standing → Bool
is_standing_damaged rows standings.New = rows
is_standing_damaged rows (standings.On side w found beside) = has_more found || is_lost beside
is_standing_damaged rows standing = true

-- both sides have a header, and neither epoch is the next one of the other, as a move makes it
abbrev pub are_apart : Head → Head → Bool
are_apart first second = is_headed first && is_headed second && not (is_next first second || is_next second first)

-- BOTH SIDES SHOW DAMAGE, or the tables have a line that is none
abbrev pub is_damaged : TablesSeen → Report → Bool
is_damaged tables r = is_side_damaged r.a r.b || is_side_damaged r.b r.a || are_apart r.a.head r.b.head || is_standing_damaged tables.rows r.standing
    || is_some tables.fault
