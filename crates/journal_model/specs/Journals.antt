-- The journal on two sides: headers, the live side, its records, and where it is bad.
use Rattle.std.specs.Prelude.{◌≡◌, ◌≢◌, ◌<◌, ◌≤◌, ◌+◌, ℕ, ◌||◌, ◌==◌, not, nat_lt, if◌then◌else◌, List, [], ◌∷◌, ◌++◌, length, take, drop, slice_index_or, sum_by}
use Rattle.std.specs.Str.{bytes_eq}
use Rattle.lab_base.specs.Lists.{Has}
use Rattle.plant.specs.declared.step.Side.{Side}
use Rattle.plant.specs.declared.step.Side.TheVariants.{A, B}
use Rattle.plant.specs.Sides.{of_side}
use Rattle.journal_rec.specs.declared.record.Record.{Record}
use Rattle.journal_rec.specs.Payloads.{number, payload, IsRecord, Decodes}
use Rattle.journal_rec.specs.Packing.{block}

-- `LABJRNL1`
abbrev pub magic : List ℕ
magic = 76 ∷ 65 ∷ 66 ∷ 74 ∷ 82 ∷ 78 ∷ 76 ∷ 49 ∷ []

-- the first 17 bytes of a side with an open header gate, with the 8 bytes of its epoch; the gate of the first record follows
abbrev pub header : List ℕ → List ℕ
header epoch = 165 ∷ magic ++ epoch

-- what the head of a side says; an epoch is kept as its bytes
pub data Head : Type 0 where
  Blank : Head
  Foreign : Head
  Headed : (epoch : List ℕ) → Head

abbrev pub head : List ℕ → Head
head bytes = if nat_lt (length bytes) 18 || not (slice_index_or bytes 0 0 == 165) then Blank
    else if bytes_eq (take 8 (drop 1 bytes)) magic then Headed (take 8 (drop 9 bytes))
    else Foreign

-- where the journal stands
pub data Live : Type 0 where
  New : Live
  On : Side → Live
  Wrong : Side → Live

-- the live side is the one that isn't blank, or the one with the greater epoch
abbrev pub live : Head → Head → Live
live Foreign b = Wrong A
live a Foreign = Wrong B
live Blank Blank = New
live (Headed m) Blank = On A
live Blank (Headed n) = On B
live (Headed m) (Headed n) = if number m == number n then Wrong A else if nat_lt (number n) (number m) then On A else On B

-- by how much a record makes a side longer
abbrev pub size : Record → ℕ
size r = length (payload r) + 5

-- the bytes from a gate on are these records, each behind an open gate, and then a closed gate
abbrev pub Reads : List ℕ → List Record → Type 0
Reads bytes [] = (gate : ℕ) × (rest : List ℕ) × (bytes ≡ gate ∷ rest) × (gate ≢ 165)
Reads bytes (r ∷ rs) = (rest : List ℕ) × IsRecord r × (bytes ≡ block r ++ rest) × Reads rest rs

-- behind an open gate: no length, or no payload with a next gate within the bytes, or a payload that is no record
pub data Broken (bytes : List ℕ) : Type 0 where
  no_length : length bytes < 4 → Broken bytes
  cut_off : 4 ≤ length bytes → length bytes < 4 + number (take 4 bytes) + 1 → Broken bytes
  no_record : 4 ≤ length bytes → ((r : Record) → Decodes (take (number (take 4 bytes)) (drop 4 bytes)) r → ⊥) → Broken bytes

-- the bytes from a gate on are these records, and then an open gate with something broken after it
abbrev pub Breaks : List ℕ → List Record → Type 0
Breaks bytes [] = (rest : List ℕ) × (bytes ≡ 165 ∷ rest) × Broken rest
Breaks bytes (r ∷ rs) = (rest : List ℕ) × IsRecord r × (bytes ≡ block r ++ rest) × Breaks rest rs

-- the position of the gate after these records
abbrev pub gate_after : List Record → ℕ
gate_after rs = 17 + sum_by size rs

-- RECORDS of two sides
abbrev pub RecordsOf : Live → List ℕ → List ℕ → List Record → Type 0
RecordsOf New a b rs = rs ≡ []
RecordsOf (On side) a b rs = Reads (drop 17 (of_side side a b)) rs
RecordsOf (Wrong side) a b rs = ⊥

abbrev pub Records : List ℕ → List ℕ → List Record → Type 0
Records a b rs = RecordsOf (live (head a) (head b)) a b rs

-- BAD at a position of a side
abbrev pub BadOf : Live → List ℕ → List ℕ → Side → ℕ → Type 0
BadOf New a b side at = ⊥
BadOf (On s) a b side at = (s ≡ side) × ((rs : List Record) × Breaks (drop 17 (of_side s a b)) rs × (at ≡ gate_after rs))
BadOf (Wrong s) a b side at = (s ≡ side) × (at ≡ 0)

abbrev pub Bad : List ℕ → List ℕ → Side → ℕ → Type 0
Bad a b side at = BadOf (live (head a) (head b)) a b side at

-- the position after the first closed gate; 0 where both sides are blank
abbrev pub size_of : Live → List Record → ℕ
size_of New rs = 0
size_of live rs = gate_after rs + 1

abbrev pub journal_length : List ℕ → List ℕ → List Record → ℕ
journal_length a b rs = size_of (live (head a) (head b)) rs

-- each is a byte
abbrev pub AreBytes : List ℕ → Type 0
AreBytes bytes = (x : ℕ) → Has bytes x → x < 256
