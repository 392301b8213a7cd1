-- Reading a payload from left to right.
use Rattle.std.specs.Prelude.{◌≡◌, ◌^◌, ℕ, ◌==◌, nat_lt, if◌then◌else◌, List, [], ◌∷◌, length, take, drop, Option, Some, None, Result, Ok, Err}
use Rattle.std.proofs.Common.{zero, suc}
use Rattle.lab_base.specs.Names.{is_name}
use Rattle.lab_base.specs.declared.ids.VlanId.{VlanId}
use Rattle.journal_rec.specs.Payloads.{number}
use Rattle.journal_rec.specs.declared.fault.RecFault.{RecFault}
use Rattle.journal_rec.specs.declared.fault.RecFault.TheVariants as faults
use Rattle.journal_rec.specs.declared.record.Way.{Way}
use Rattle.journal_rec.specs.declared.record.Way.TheVariants.{In, Out, Change, Change2}
use Rattle.journal_rec.specs.declared.record.Record.{Record}
use Rattle.journal_rec.specs.declared.record.Record.TheVariants.{Lab, Create, Delete, Begin, Commit, Abort, Create2}

infixl 10 ◌>>=◌
abbrev pub ◌>>=◌ : {A B : Type 0} → Option A → (A → Option B) → Option B
(Some x) >>= f = f x
None >>= f = None

-- what a function answered, seen by view, is what reading gives, unless memory was wanting
abbrev pub Fails : {Y : Type 0} → RecFault → Option Y → Type 0
Fails faults.Bad read = read ≡ None
Fails faults.Memory read = Unit {0}

abbrev pub Gives : {X Y : Type 0} → (X → Y) → Result X RecFault → Option Y → Type 0
Gives view (Ok x) read = read ≡ Some (view x)
Gives view (Err fault) read = Fails fault read

-- a field is a value, and the bytes after it
abbrev pub byte_at : List ℕ → Option (ℕ × List ℕ)
byte_at [] = None
byte_at (byte ∷ rest) = Some (byte, rest)

abbrev pub number_at : ℕ → List ℕ → Option (ℕ × List ℕ)
number_at k bytes = if nat_lt (length bytes) k then None else Some (number (take k bytes), drop k bytes)

abbrev pub part_at : ℕ → List ℕ → Option (List ℕ × List ℕ)
part_at n bytes = if nat_lt (length bytes) n then None else Some (take n bytes, drop n bytes)

abbrev pub name_of : List ℕ → Option (List ℕ)
name_of part = if is_name part then Some part else None

unfoldable pub field_at : List ℕ → Option (List ℕ × List ℕ)
field_at bytes = do
  n ← byte_at bytes
  part_at n.0 n.1

unfoldable pub text_at : List ℕ → Option (List ℕ × List ℕ)
text_at bytes = do
  n ← number_at 4 bytes
  part_at n.0 n.1

unfoldable pub each_at : ℕ → List ℕ → Option (List VlanId × List ℕ)
each_at zero bytes = Some ([], bytes)
each_at (suc n) bytes = do
  first ← number_at 2 bytes
  others ← each_at n first.1
  Some (record { 0 = first.0 } ∷ others.0, others.1)

unfoldable pub tags_at : List ℕ → Option (List VlanId × List ℕ)
tags_at bytes = do
  n ← number_at 2 bytes
  each_at n.0 n.1

unfoldable pub in_at : List ℕ → Option (Way × List ℕ)
in_at bytes = do
  map ← text_at bytes
  tags ← tags_at map.1
  Some (In map.0 tags.0, tags.1)

unfoldable pub change_at : List ℕ → Option (Way × List ℕ)
change_at bytes = do
  top ← text_at bytes
  map ← text_at top.1
  tags ← tags_at map.1
  Some (Change top.0 map.0 tags.0, tags.1)

unfoldable pub change2_at : List ℕ → Option (Way × List ℕ)
change2_at bytes = do
  top ← text_at bytes
  map ← text_at top.1
  tags ← tags_at map.1
  Some (Change2 top.0 map.0 tags.0, tags.1)

unfoldable pub way_at : List ℕ → Option (Way × List ℕ)
way_at bytes = do
  kind ← byte_at bytes
  if kind.0 == 1 then in_at kind.1 else if kind.0 == 2 then Some (Out, kind.1) else if kind.0 == 3 then change_at kind.1 else if kind.0 == 4 then change2_at kind.1 else None

unfoldable pub lab_at : List ℕ → Option (Record × List ℕ)
lab_at bytes = do
  ptop ← text_at bytes
  Some (Lab ptop.0, ptop.1)

unfoldable pub create_at : List ℕ → Option (Record × List ℕ)
create_at bytes = do
  part ← field_at bytes
  exp ← name_of part.0
  top ← text_at part.1
  Some (Create exp top.0, top.1)

unfoldable pub create2_at : List ℕ → Option (Record × List ℕ)
create2_at bytes = do
  part ← field_at bytes
  exp ← name_of part.0
  top ← text_at part.1
  Some (Create2 exp top.0, top.1)

unfoldable pub begin_at : List ℕ → Option (Record × List ℕ)
begin_at bytes = do
  part ← field_at bytes
  exp ← name_of part.0
  way ← way_at part.1
  Some (Begin exp way.0, way.1)

unfoldable pub delete_at : List ℕ → Option (Record × List ℕ)
delete_at bytes = do
  part ← field_at bytes
  exp ← name_of part.0
  Some (Delete exp, part.1)

unfoldable pub commit_at : List ℕ → Option (Record × List ℕ)
commit_at bytes = do
  part ← field_at bytes
  exp ← name_of part.0
  Some (Commit exp, part.1)

unfoldable pub abort_at : List ℕ → Option (Record × List ℕ)
abort_at bytes = do
  part ← field_at bytes
  exp ← name_of part.0
  Some (Abort exp, part.1)

unfoldable pub record_at : List ℕ → Option (Record × List ℕ)
record_at bytes = do
  kind ← byte_at bytes
  if kind.0 == 1 then lab_at kind.1 else if kind.0 == 2 then create_at kind.1 else if kind.0 == 3 then delete_at kind.1 else if kind.0 == 4 then begin_at kind.1 else if kind.0 == 5 then commit_at kind.1 else if kind.0 == 6 then abort_at kind.1 else if kind.0 == 7 then create2_at kind.1 else None

-- all of the bytes, which are few enough
unfoldable pub all_of : List ℕ → Option Record
all_of bytes = if nat_lt (length bytes) (2 ^ 32) then (do
  r ← record_at bytes
  if length r.1 == 0 then Some r.0 else None) else None
