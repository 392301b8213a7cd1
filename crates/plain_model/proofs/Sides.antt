-- Two sides of a journal, and what they are read as, by values.
use Rattle.std.specs.Prelude.{◌≡◌, ℕ, List, [], ◌∷◌, ◌++◌, codes}
use Rattle.std.proofs.Common.{refl}
use Rattle.std.proofs.lemmas.Bool.{ltb-true, leb-true}
use Rattle.plant.specs.declared.step.Side.TheVariants.{A, B}
use Rattle.journal_rec.specs.declared.record.Record.{Record}
use Rattle.journal_rec.specs.declared.record.Record.TheVariants.{Delete}
use Rattle.journal_rec.specs.Payloads.{IsRecord, le}
use Rattle.journal_model.specs.Journals.{head, live, New, On, Wrong, Records, Bad, cut_off}

-- a header of that epoch with that name, and the record Delete of A with that gate after it
abbrev named : List ℕ → ℕ → List ℕ → List ℕ
named name epoch rest = 165 ∷ name ++ le 8 epoch ++ rest

abbrev side : ℕ → List ℕ → List ℕ
side = named (codes "LABJRNL1")

abbrev delete : ℕ → List ℕ
delete gate = 165 ∷ 3 ∷ 0 ∷ 0 ∷ 0 ∷ 3 ∷ 1 ∷ 65 ∷ gate ∷ []

abbrev cut : List ℕ
cut = 165 ∷ 3 ∷ 0 ∷ 0 ∷ 0 ∷ 3 ∷ 1 ∷ 65 ∷ []

abbrev record_a : Record
record_a = Delete (codes "A")

is_record : IsRecord record_a
is_record = record { fields = refl; size = ltb-true _ _ refl }

-- blank sides, and headers whose gate was not yet written after them
no_bytes : live (head []) (head []) ≡ New
no_bytes = refl

no_gates : live (head (side 1 [])) (head (side 1 [])) ≡ New
no_gates = refl

-- a side alone
first_alone : live (head (side 1 (delete 0))) (head []) ≡ On A
first_alone = refl

second_alone : live (head []) (head (side 1 (delete 0))) ≡ On B
second_alone = refl

-- the greater epoch
first_later : live (head (side 2 (delete 0))) (head (side 1 (delete 0))) ≡ On A
first_later = refl

second_later : live (head (side 1 (delete 0))) (head (side 2 (delete 0))) ≡ On B
second_later = refl

far_later : live (head (side 255 (delete 0))) (head (side 256 (delete 0))) ≡ On B
far_later = refl

same_epoch : live (head (side 1 (delete 0))) (head (side 1 (delete 0))) ≡ Wrong A
same_epoch = refl

-- a header gate that is closed, or is neither closed nor open
closed : live (head (0 ∷ codes "LABJRNL1" ++ le 8 1 ++ delete 0)) (head (side 2 (delete 0))) ≡ On B
closed = refl

neither : live (head (164 ∷ codes "LABJRNL1" ++ le 8 2 ++ delete 0)) (head (side 1 (delete 0))) ≡ On B
neither = refl

-- another name
first_foreign : live (head (named (codes "LABJRNL2") 1 (delete 0))) (head (side 2 (delete 0))) ≡ Wrong A
first_foreign = refl

second_foreign : live (head (side 2 (delete 0))) (head (named (codes "LABJRNLX") 1 (delete 0))) ≡ Wrong B
second_foreign = refl

-- a record with a closed gate after it, none before one, and one that ends at a gate that is neither
one_record : Records (side 1 (delete 0)) [] (record_a ∷ [])
one_record = (0 ∷ [], is_record, refl, (0, [], refl, λ e. cc e))

no_record_yet : Records (side 1 (0 ∷ [])) [] []
no_record_yet = (0, [], refl, λ e. cc e)

other_gate : Records [] (side 1 (delete 1)) (record_a ∷ [])
other_gate = (1 ∷ [], is_record, refl, (1, [], refl, λ e. cc e))

-- an open gate without a record after it, after one record and after none
open_behind : Bad (side 1 (delete 165 ++ 1 ∷ 0 ∷ 0 ∷ 0 ∷ [])) [] A 25
open_behind = (refl, (record_a ∷ [], (165 ∷ 1 ∷ 0 ∷ 0 ∷ 0 ∷ [], is_record, refl, (1 ∷ 0 ∷ 0 ∷ 0 ∷ [], refl, cut_off (leb-true _ _ refl) (ltb-true _ _ refl))), refl))

cut_short : Bad (side 1 (delete 0)) (side 2 cut) B 17
cut_short = (refl, ([], (3 ∷ 0 ∷ 0 ∷ 0 ∷ 3 ∷ 1 ∷ 65 ∷ [], refl, cut_off (leb-true _ _ refl) (ltb-true _ _ refl)), refl))
