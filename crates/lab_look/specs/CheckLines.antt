-- The lines that a check tells of both sides.
use Rattle.std.specs.Prelude.{◌≡◌, ℕ, Bool, ◌&&◌, nat_lt, if◌then◌else◌, List, [], ◌∷◌, ◌++◌, length, codes, decimal, Option, Some, None}
use Rattle.lab_base.specs.Kinds.{word_of}
use Rattle.lab_base.specs.declared.fault.TextFault.{TextFault}
use Rattle.plant.specs.declared.step.Side.{Side}
use Rattle.plant.specs.declared.step.Side.TheVariants.{A, B}
use Rattle.journal_rec.specs.declared.record.Found.{Found}
use Rattle.journal_disk.specs.declared.heads.Head.{Head}
use Rattle.journal_disk.specs.declared.heads.Head.TheVariants.{Blank, Foreign, Headed}
use Rattle.lab_sides.specs.declared.walking.Walked.{Walked}
use Rattle.lab_look.specs.declared.report.SideReport.{SideReport}
use Rattle.lab_look.specs.declared.report.Standing.{Standing}
use Rattle.lab_look.specs.declared.report.Standing.TheVariants as standings
use Rattle.lab_look.specs.declared.report.Report.{Report}
use Rattle.lab_look.specs.declared.tables.TablesSeen.{TablesSeen}
use Rattle.lab_look.specs.declared.checking.CheckLines.{CheckLines}
use Rattle.lab_look.specs.declared.checking.CheckOptions.{CheckOptions}
use Rattle.lab_look.specs.Records.{listed}
use Rattle.lab_look.specs.Reports.{is_headed, has_more, has_lost, are_apart, is_damaged, IsReport}

-- what stands before a number or another part of a line
unfoldable pub stands_on : List ℕ
stands_on = codes "stands on "

unfoldable pub no_journal : List ℕ
no_journal = codes "no journal yet\n"

unfoldable pub epoch_words : List ℕ
epoch_words = codes " bytes epoch "

unfoldable pub changed_words : List ℕ
changed_words = codes "the gate was changed, whole records behind it: "

unfoldable pub after_words : List ℕ
after_words = codes "whole records behind it: "

abbrev pub side_word : Side → List ℕ
side_word A = codes "side A"
side_word B = codes "side B"

-- damage is told where two looks in a row found both sides the same
abbrev pub damage : Bool → List ℕ
damage still = if still then codes "DAMAGE: " else codes "came while it was read: "

abbrev pub head_words : Head → List ℕ
head_words Blank = codes " bytes blank\n"
head_words Foreign = codes " bytes no journal\n"
head_words (Headed epoch) = epoch_words ++ decimal epoch ++ 10 ∷ []

abbrev pub cut_line : Bool → Side → Bool → List ℕ
cut_line still side cut = if cut then damage still ++ side_word side ++ codes " is cut in its header\n" else []

-- A SIDE: `side A 1784 bytes epoch 1`
abbrev pub side_lines : Bool → Side → SideReport → List ℕ
side_lines still side r = side_word side ++ 32 ∷ [] ++ decimal r.bytes ++ head_words r.head ++ cut_line still side r.cut

-- records after a closed header
abbrev pub shut_records : CheckOptions → Side → List Found → List ℕ
shut_records how side found =
    if nat_lt 0 (length found) then damage how.still ++ side_word side ++ codes " has a closed header over these records\n" ++ listed how.all found
    else side_word side ++ codes " has a closed header over no record\n"

-- after one that was lost, and after one that a move left
abbrev pub left_words : CheckOptions → Side → Bool → List Found → List ℕ
left_words how side lost found =
    if lost then damage how.still ++ side_word side ++ codes " has lost its header gate over these records\n" ++ listed how.all found
    else side_word side ++ codes " has a closed header, as a move of the journal leaves it\n"

abbrev pub shut_words : CheckOptions → Side → Bool → Bool → List Found → List ℕ
shut_words how side headed lost found = if headed then left_words how side lost found else shut_records how side found

abbrev pub shut_lines : CheckOptions → Side → Option (List Found) → Head → Bool → List ℕ
shut_lines how side None other lost = []
shut_lines how side (Some found) other lost = shut_words how side (is_headed other) lost found

-- the whole records behind the closed gate
unfoldable pub after_lines : CheckOptions → List Found → List ℕ
after_lines how found =
    if has_more found then damage how.still ++ changed_words ++ decimal (length found) ++ 10 ∷ [] ++ listed how.all found
    else after_words ++ decimal (length found) ++ 10 ∷ [] ++ listed how.all found

abbrev pub rows_line : Bool → Bool → List ℕ
rows_line still rows = if rows then damage still ++ codes "the tables have lines\n" else []

-- the records of a side, its closed gate, and what stands after it
unfoldable pub stands_lines : Bool → Side → List Found → List ℕ
stands_lines all side found = stands_on ++ side_word side ++ codes ", records: " ++ decimal (length found) ++ 10 ∷ [] ++ listed all found

unfoldable pub closed_words : List ℕ
closed_words = codes " closed gate\n"

unfoldable pub gate_line : ℕ → List ℕ
gate_line gate = codes "  " ++ decimal gate ++ closed_words

abbrev pub on_lines : CheckOptions → Side → Walked → List Found → List ℕ
on_lines how side w found = stands_lines how.all side w.found ++ gate_line w.gate ++ after_lines how found

-- WHERE THE JOURNAL STANDS, record by record
abbrev pub standing_lines : CheckOptions → Bool → Standing → List ℕ
standing_lines how rows standings.New = no_journal ++ rows_line how.still rows
standing_lines how rows (standings.On side w found beside) = on_lines how side w found
standing_lines how rows (standings.Bad side at before) = listed how.all before ++ damage how.still ++ side_word side ++ codes " is bad at " ++ decimal at ++ 10 ∷ []
standing_lines how rows (standings.Wrong side at w) =
    listed how.all w.found ++ damage how.still ++ side_word side ++ codes " has a record that can't follow at " ++ decimal at ++ 10 ∷ []

unfoldable pub form_words : List ℕ
form_words = codes " of tables has another form: "

-- THE FIRST LINE OF THE TABLES THAT IS NONE, with its kind of fault: `DAMAGE: line 3 of tables has another form: fields`
abbrev pub fault_line : Bool → Option TextFault → List ℕ
fault_line still None = []
fault_line still (Some fault) = damage still ++ codes "line " ++ decimal fault.line ++ form_words ++ word_of fault.kind ++ 10 ∷ []

-- the last line
abbrev pub verdict_of : Bool → Bool → List ℕ
verdict_of still damaged = if still then (if damaged then codes "damaged\n" else codes "sound\n") else codes "a program is at work here\n"

abbrev pub apart_line : Bool → Bool → List ℕ
apart_line still apart = if apart then damage still ++ codes "the epochs of the sides don't follow each other\n" else []

-- the lines of both sides
abbrev pub sides_lines : CheckOptions → Report → List ℕ
sides_lines how r = side_lines how.still A r.a ++ side_lines how.still B r.b ++ apart_line how.still (are_apart r.a.head r.b.head) ++ shut_lines how A r.a.shut r.b.head (has_lost r.standing)
    ++ shut_lines how B r.b.shut r.a.head (has_lost r.standing)

-- WHAT A CHECK TELLS
abbrev pub check_text : CheckOptions → TablesSeen → Report → List ℕ
check_text how tables r = sides_lines how r ++ standing_lines how tables.rows r.standing ++ fault_line how.still tables.fault
    ++ verdict_of how.still (is_damaged tables r)

-- THE CHECK of two sides and the tables: a text on what they hold, and damage where two looks in a row found both sides the same, and that shows
-- damage
pub record IsChecked (a b : List ℕ) (how : CheckOptions) (tables : TablesSeen) (t : CheckLines) : Type 0 where
  pub report : Report
  pub is_report : IsReport a b report
  pub text_is : t.text ≡ check_text how tables report
  pub damaged_is : t.damaged ≡ how.still && is_damaged tables report
