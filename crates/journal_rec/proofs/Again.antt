-- Written records are read again.
use Rattle.std.proofs.Common.{◌≡◌, ℕ, ◌^◌, ◌<◌, true, cond, eqb, List, [], ◌∷◌, ◌++◌, length, Option, Some, None, Result, Ok, Err, refl, sym, ap, ◌∙◌, arith}
use Rattle.std.proofs.lemmas.Bool.{lt-ltb}
use Rattle.std.proofs.lemmas.List.{append-nil, length-append}
use Rattle.lab_base.specs.Names.{is_name}
use Rattle.lab_base.specs.declared.ids.VlanId.{VlanId}
use Rattle.journal_rec.specs.declared.fault.RecFault.{RecFault}
use Rattle.journal_rec.specs.declared.fault.RecFault.TheVariants as faults
use Rattle.journal_rec.specs.declared.record.Way.{Way}
use Rattle.journal_rec.specs.declared.record.Way.TheVariants.{In, Out, Change, Change2}
use Rattle.journal_rec.specs.declared.record.Record.{Record}
use Rattle.journal_rec.specs.declared.record.Record.TheVariants.{Lab, Create, Delete, Begin, Commit, Abort, Create2}
use Rattle.journal_rec.specs.Payloads.{name_bytes, text_bytes, tags_bytes, way_bytes, payload, IsWay, tags_of_way, tags_of, HasFields, IsShort, IsRecord, Decodes, IsReadAs}
use Rattle.journal_rec.specs.Reading.{◌>>=◌, Gives, name_of, field_at, text_at, way_at, lab_at, create_at, create2_at, begin_at, delete_at, commit_at, abort_at, record_at, all_of}
use Rattle.journal_rec.proofs.Fields.{field_again, text_again}
use Rattle.std.specs.Prelude.{IfOk, IsErrOf}
use Rattle.std.proofs.lemmas.Option.{same_Some}
use Rattle.journal_rec.proofs.Numbers.{IsBytes}
use Rattle.journal_rec.proofs.Records.{all_takes, in_again, change_again, change2_again, name_again}

-- the texts of a payload that is short enough
module _ where
  text_1 : (t : List ℕ) → length (payload (Lab t)) < 2 ^ 32 → length t < 2 ^ 32
  text_1 t h = omega (arith, h)

  text_2 : (exp t : List ℕ) → length (payload (Create exp t)) < 2 ^ 32 → length t < 2 ^ 32
  text_2 exp t h = omega (arith, length-append (2 ∷ name_bytes exp) (text_bytes t), h)

  text_7 : (exp t : List ℕ) → length (payload (Create2 exp t)) < 2 ^ 32 → length t < 2 ^ 32
  text_7 exp t h = omega (arith, length-append (7 ∷ name_bytes exp) (text_bytes t), h)

  text_in : (map : List ℕ) (tags : List VlanId) → length (way_bytes (In map tags)) < 2 ^ 32 → length map < 2 ^ 32
  text_in map tags h = omega (arith, length-append (1 ∷ text_bytes map) (tags_bytes tags), h)

  texts_change : (top map : List ℕ) (tags : List VlanId) → length (way_bytes (Change top map tags)) < 2 ^ 32 → (length top < 2 ^ 32) × (length map < 2 ^ 32)
  texts_change top map tags h =
      let b = length-append (3 ∷ text_bytes top) (text_bytes map ++ tags_bytes tags) in
      let c = length-append (text_bytes map) (tags_bytes tags) in
      (omega (arith, b, c, h), omega (arith, b, c, h))

  texts_change2 : (top map : List ℕ) (tags : List VlanId) → length (way_bytes (Change2 top map tags)) < 2 ^ 32 → (length top < 2 ^ 32) × (length map < 2 ^ 32)
  texts_change2 top map tags h =
      let b = length-append (4 ∷ text_bytes top) (text_bytes map ++ tags_bytes tags) in
      let c = length-append (text_bytes map) (tags_bytes tags) in
      (omega (arith, b, c, h), omega (arith, b, c, h))

  way_2 : (exp : List ℕ) (way : Way) → length (payload (Begin exp way)) < 2 ^ 32 → length (way_bytes way) < 2 ^ 32
  way_2 exp way h = omega (arith, length-append (4 ∷ name_bytes exp) (way_bytes way), h)

way_again : (way : Way) → IsWay way → length (way_bytes way) < 2 ^ 32 → way_at (way_bytes way) ≡ Some (way, [])
unfolding way_at
way_again (In map tags) are short =
    ap way_at (sym (append-nil (way_bytes (In map tags)))) ∙ in_again map tags [] (text_in map tags short) are
way_again Out are short = refl
way_again (Change top map tags) are short =
    let both = texts_change top map tags short in
    ap way_at (sym (append-nil (way_bytes (Change top map tags)))) ∙ change_again top map tags [] both.0 both.1 are
way_again (Change2 top map tags) are short =
    let both = texts_change2 top map tags short in
    ap way_at (sym (append-nil (way_bytes (Change2 top map tags)))) ∙ change2_again top map tags [] both.0 both.1 are

abbrev with_rest : {X : Type 0} → X → List ℕ → Option (X × List ℕ)
with_rest x rest = Some (x, rest)

-- a name alone
alone_again : (exp : List ℕ) (make : List ℕ → Record) → is_name exp ≡ true → (field_at (name_bytes exp) >>= λ part. name_of part.0 >>= λ exp. with_rest (make exp) part.1) ≡ with_rest (make exp) []
alone_again exp make named =
    ap (λ (l : List ℕ). field_at l >>= λ part. name_of part.0 >>= λ exp. with_rest (make exp) part.1) (sym (append-nil (name_bytes exp)))
    ∙ ap (λ (read : Option (List ℕ × List ℕ)). read >>= λ part. name_of part.0 >>= λ exp. with_rest (make exp) part.1) (field_again exp [])
    ∙ ap (λ (read : Option (List ℕ)). read >>= λ exp. with_rest (make exp) []) (name_again exp named)

record_again : (r : Record) → IsRecord r → record_at (payload r) ≡ Some (r, [])
unfolding record_at lab_at create_at create2_at begin_at delete_at commit_at abort_at
record_again (Lab t) is =
    ap lab_at (sym (append-nil (text_bytes t)))
    ∙ ap (λ (read : Option (List ℕ × List ℕ)). read >>= λ ptop. let o : Option (Record × List ℕ) = Some (Lab ptop.0, ptop.1) in o) (text_again t [] (text_1 t is.size))
record_again (Create exp t) is =
    ap (λ (l : List ℕ). create_at (name_bytes exp ++ l)) (sym (append-nil (text_bytes t)))
    ∙ ap (λ (read : Option (List ℕ × List ℕ)). read >>= λ part. name_of part.0 >>= λ exp. text_at part.1 >>= λ top. Some (Create exp top.0, top.1)) (field_again exp (text_bytes t ++ []))
    ∙ ap (λ (read : Option (List ℕ)). read >>= λ exp. text_at (text_bytes t ++ []) >>= λ top. Some (Create exp top.0, top.1)) (name_again exp is.fields)
    ∙ ap (λ (read : Option (List ℕ × List ℕ)). read >>= λ top. let o : Option (Record × List ℕ) = Some (Create exp top.0, top.1) in o) (text_again t [] (text_2 exp t is.size))
record_again (Create2 exp t) is =
    ap (λ (l : List ℕ). create2_at (name_bytes exp ++ l)) (sym (append-nil (text_bytes t)))
    ∙ ap (λ (read : Option (List ℕ × List ℕ)). read >>= λ part. name_of part.0 >>= λ exp. text_at part.1 >>= λ top. Some (Create2 exp top.0, top.1)) (field_again exp (text_bytes t ++ []))
    ∙ ap (λ (read : Option (List ℕ)). read >>= λ exp. text_at (text_bytes t ++ []) >>= λ top. Some (Create2 exp top.0, top.1)) (name_again exp is.fields)
    ∙ ap (λ (read : Option (List ℕ × List ℕ)). read >>= λ top. let o : Option (Record × List ℕ) = Some (Create2 exp top.0, top.1) in o) (text_again t [] (text_7 exp t is.size))
record_again (Delete exp) is = alone_again exp (λ e. Delete e) is.fields
record_again (Commit exp) is = alone_again exp (λ e. Commit e) is.fields
record_again (Abort exp) is = alone_again exp (λ e. Abort e) is.fields
record_again (Begin exp way) is =
    ap (λ (read : Option (List ℕ × List ℕ)). read >>= λ part. name_of part.0 >>= λ exp. way_at part.1 >>= λ way. Some (Begin exp way.0, way.1)) (field_again exp (way_bytes way))
    ∙ ap (λ (read : Option (List ℕ)). read >>= λ exp. way_at (way_bytes way) >>= λ way. Some (Begin exp way.0, way.1)) (name_again exp is.fields.0)
    ∙ ap (λ (read : Option (Way × List ℕ)). read >>= λ way. let o : Option (Record × List ℕ) = Some (Begin exp way.0, way.1) in o) (way_again way is.fields.1 (way_2 exp way is.size))

-- A RECORD'S PAYLOAD IS READ AS IT
pub all_again : (r : Record) → IsRecord r → all_of (payload r) ≡ Some r
unfolding all_of
all_again r is =
    ap (λ b. cond b (record_at (payload r) >>= λ x. cond (eqb (length x.1) 0) (Some x.0) None) None) (lt-ltb (length (payload r)) (2 ^ 32) is.size)
    ∙ ap (λ (read : Option (Record × List ℕ)). read >>= λ x. cond (eqb (length x.1) 0) (Some x.0) None) (record_again r is)

read_again : (bytes : List ℕ) (r : Record) → Decodes bytes r → all_of bytes ≡ Some r
read_again bytes r d = ap all_of d.spelled ∙ all_again r d.is_record

-- what reading gives is that record
pub read_as : (bytes : List ℕ) (r : Record) (result : Result Record RecFault) → Decodes bytes r → Gives (λ entry. entry) result (all_of bytes) → IsReadAs r result
read_as bytes r (Ok s) d gives = same_Some s r (sym gives ∙ read_again bytes r d)
read_as bytes r (Err faults.Bad) d gives = absurd (differ (sym gives ∙ read_again bytes r d))
  where
    differ : {x : Record} → None ≡ Some x → ⊥
    differ e = cc
read_as bytes r (Err faults.Memory) d gives = tt

-- bytes are a payload of one record
pub decodes_once : (bytes : List ℕ) (r s : Record) → Decodes bytes r → Decodes bytes s → r ≡ s
decodes_once bytes r s a b = same_Some r s (sym (read_again bytes r a) ∙ read_again bytes s b)

pub payload_once : (r s : Record) → IsRecord r → IsRecord s → payload r ≡ payload s → r ≡ s
payload_once r s a b e = decodes_once (payload r) r s (record { is_record = a; spelled = refl }) (record { is_record = b; spelled = e })

-- what was read
pub is_payload : (bytes : List ℕ) (result : Result Record RecFault) → IsBytes bytes → Gives (λ entry. entry) result (all_of bytes) → IfOk result (λ entry. Decodes bytes entry)
is_payload bytes (Ok r) fits gives = all_takes bytes r fits gives
is_payload bytes (Err fault) fits gives = tt

pub no_payload : (r : Record) (result : Result Record RecFault) → IsErrOf result faults.Bad → IsReadAs r result → ⊥
no_payload r (Ok s) bad read = absurd (cc bad)
no_payload r (Err faults.Bad) bad read = read
no_payload r (Err faults.Memory) bad read = absurd (cc bad)

-- what was read can be written
short_way : (way : Way) → IsWay way → length (tags_of_way way) < 2 ^ 16
short_way (In map tags) are = are.count
short_way Out are = omega arith
short_way (Change top map tags) are = are.count
short_way (Change2 top map tags) are = are.count

short_tags : (r : Record) → HasFields r → length (tags_of r) < 2 ^ 16
short_tags (Lab ptop) has = omega arith
short_tags (Create exp top) has = omega arith
short_tags (Delete exp) has = omega arith
short_tags (Begin exp way) has = short_way way has.1
short_tags (Commit exp) has = omega arith
short_tags (Abort exp) has = omega arith
short_tags (Create2 exp top) has = omega arith

pub is_short : (bytes : List ℕ) (result : Result Record RecFault) → IsBytes bytes → Gives (λ entry. entry) result (all_of bytes) → IfOk result IsShort
is_short bytes (Ok r) fits gives =
    let d = all_takes bytes r fits gives in
    record { tags = short_tags r d.is_record.fields; size = d.is_record.size }
is_short bytes (Err fault) fits gives = tt
