-- Records as bytes.
use Rattle.std.specs.Prelude.{◌≡◌, ◌<◌, ◌+◌, ◌*◌, ◌/◌, ◌%◌, ◌^◌, ℕ, true, List, [], ◌∷◌, ◌++◌, length, Result, Ok, Err}
use Rattle.std.proofs.Common.{zero, suc}
use Rattle.std.specs.List.{flat_map}
use Rattle.lab_base.specs.Lists.{Has}
use Rattle.lab_base.specs.Names.{is_name}
use Rattle.lab_base.specs.declared.ids.VlanId.{VlanId}
use Rattle.journal_rec.specs.declared.fault.RecFault.{RecFault}
use Rattle.journal_rec.specs.declared.fault.RecFault.TheVariants as faults
use Rattle.journal_rec.specs.declared.record.Way.{Way}
use Rattle.journal_rec.specs.declared.record.Way.TheVariants.{In, Out, Change, Change2}
use Rattle.journal_rec.specs.declared.record.Record.{Record}
use Rattle.journal_rec.specs.declared.record.Record.TheVariants.{Lab, Create, Delete, Begin, Commit, Abort, Create2}

-- a number in that many bytes, the least first
abbrev pub le : ℕ → ℕ → List ℕ
le zero n = []
le (suc k) n = (n % 256) ∷ le k (n / 256)

-- the number that the bytes are
abbrev pub number : List ℕ → ℕ
number [] = 0
number (x ∷ xs) = x + 256 * number xs

-- a name is its length in 1 byte, then its bytes
abbrev pub name_bytes : List ℕ → List ℕ
name_bytes name = length name ∷ name

-- a text is its length in 4 bytes, then its bytes
abbrev pub text_bytes : List ℕ → List ℕ
text_bytes text = le 4 (length text) ++ text

-- tags are their number in 2 bytes, then 2 bytes each
abbrev pub tag_bytes : VlanId → List ℕ
tag_bytes tag = le 2 tag.0

abbrev pub tags_bytes : List VlanId → List ℕ
tags_bytes tags = le 2 (length tags) ++ flat_map tag_bytes tags

abbrev pub way_bytes : Way → List ℕ
way_bytes (In map tags) = 1 ∷ text_bytes map ++ tags_bytes tags
way_bytes Out = 2 ∷ []
way_bytes (Change top map tags) = 3 ∷ text_bytes top ++ (text_bytes map ++ tags_bytes tags)
way_bytes (Change2 top map tags) = 4 ∷ text_bytes top ++ (text_bytes map ++ tags_bytes tags)

-- the one spelling of a record
abbrev pub payload : Record → List ℕ
payload (Lab ptop) = 1 ∷ text_bytes ptop
payload (Create exp top) = 2 ∷ name_bytes exp ++ text_bytes top
payload (Delete exp) = 3 ∷ name_bytes exp
payload (Begin exp way) = 4 ∷ name_bytes exp ++ way_bytes way
payload (Commit exp) = 5 ∷ name_bytes exp
payload (Abort exp) = 6 ∷ name_bytes exp
payload (Create2 exp top) = 7 ∷ name_bytes exp ++ text_bytes top

-- at most 65,535 tags, each of 2 bytes
pub record AreTags (tags : List VlanId) : Type 0 where
  pub count : length tags < 2 ^ 16
  pub each : (tag : VlanId) → Has tags tag → tag.0 < 2 ^ 16

abbrev pub IsWay : Way → Type 0
IsWay (In map tags) = AreTags tags
IsWay Out = Unit {0}
IsWay (Change top map tags) = AreTags tags
IsWay (Change2 top map tags) = AreTags tags

abbrev pub HasFields : Record → Type 0
HasFields (Lab ptop) = Unit {0}
HasFields (Create exp top) = is_name exp ≡ true
HasFields (Delete exp) = is_name exp ≡ true
HasFields (Begin exp way) = (is_name exp ≡ true) × IsWay way
HasFields (Commit exp) = is_name exp ≡ true
HasFields (Abort exp) = is_name exp ≡ true
HasFields (Create2 exp top) = is_name exp ≡ true

-- the record can be written: its names are names, its tags are tags, and its payload's length fits 4 bytes
pub record IsRecord (r : Record) : Type 0 where
  pub fields : HasFields r
  pub size : length (payload r) < 2 ^ 32

-- the bytes are the payload of that record
pub record Decodes (bytes : List ℕ) (r : Record) : Type 0 where
  pub is_record : IsRecord r
  pub spelled : bytes ≡ payload r

-- it was read as that record, unless memory was wanting
abbrev pub IsReadAs : Record → Result Record RecFault → Type 0
IsReadAs r (Ok s) = s ≡ r
IsReadAs r (Err faults.Bad) = ⊥
IsReadAs r (Err faults.Memory) = Unit {0}

-- a record takes the list of tags that it has
abbrev pub tags_of_way : Way → List VlanId
tags_of_way (In map tags) = tags
tags_of_way Out = []
tags_of_way (Change top map tags) = tags
tags_of_way (Change2 top map tags) = tags

abbrev pub tags_of : Record → List VlanId
tags_of (Begin exp way) = tags_of_way way
tags_of r = []

-- few enough tags, and a payload that is short enough
pub record IsShort (r : Record) : Type 0 where
  pub tags : length (tags_of r) < 2 ^ 16
  pub size : length (payload r) < 2 ^ 32

-- what stands after a record's gate: the length of its payload in 4 bytes, the payload, and the next gate, closed
abbrev pub body : Record → List ℕ
body r = le 4 (length (payload r)) ++ payload r ++ 0 ∷ []

-- the bytes stand behind the gate of that record
pub record IsBody (bytes : List ℕ) (r : Record) : Type 0 where
  pub is_record : IsRecord r
  pub spelled : bytes ≡ body r
