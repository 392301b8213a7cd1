-- A side's bytes with its records behind gates.
use Rattle.std.proofs.Common.{◌≡◌, ◌≢◌, inl, inr, ℕ, ◌+◌, ◌≤◌, ◌||◌, false, nat_lt, if◌then◌else◌, List, [], ◌∷◌, ◌++◌, length, take, drop, get_or, refl, sym, ap, ◌∙◌, subst, arith, append_assoc, length-append, take-append-drop, sum_by}
use Rattle.std.proofs.lemmas.List.{take_at, drop_at}
use Rattle.std.proofs.lemmas.List.Sums.{sum_by-append}
use Rattle.std.proofs.lemmas.Bool.{le-ltb, lt-ltb, ne_eqb}
use Rattle.lab_base.specs.Lists.{Has}
use Rattle.lab_base.proofs.Members.{Has-append}
use Rattle.plant.specs.Disks.{Disk, put, wrote, synced, IsImage, at_once}
use Rattle.plant.specs.declared.step.Side.{Side}
use Rattle.plant.specs.declared.step.Side.TheVariants.{A, B}
use Rattle.plant.specs.Sides.{of_side}
use Rattle.journal_rec.specs.declared.record.Record.{Record}
use Rattle.journal_rec.specs.Payloads.{le, number, payload, IsRecord, body}
use Rattle.journal_rec.specs.Packing.{block, blocks}
use Rattle.journal_rec.proofs.Packing.{blocks-push}
use Rattle.journal_model.specs.Journals.{header, Head, Blank, Foreign, Headed, head, On, Wrong, live, size, Reads, gate_after, RecordsOf, size_of}
use Rattle.journal_model.specs.Appends.{front, other_side, IsOlder, Rests, IsOn}
use Rattle.journal_model.proofs.Images.{front_kept, synced_image, byte_image, put_one}

-- THE STATES OF THE LIVE SIDE while a record is appended to it

-- something is written behind the closed gate
pub record Writes (d : Disk) (epoch : List ℕ) (rs : List Record) : Type 0 where
  pub gate : ℕ
  pub behind : List ℕ
  pub shut : gate ≢ 165
  pub durable : d.durable ≡ front epoch rs ++ gate ∷ behind
  pub enough : length (front epoch rs) + 1 ≤ length d.reads
  pub later : (range : ℕ × ℕ) → Has d.written range → length (front epoch rs) + 1 ≤ range.0

-- the whole of r stands behind the closed gate
pub record IsReady (d : Disk) (epoch : List ℕ) (rs : List Record) (r : Record) : Type 0 where
  pub gate : ℕ
  pub behind : List ℕ
  pub shut : gate ≢ 165
  pub is : d ≡ at_once (front epoch rs ++ gate ∷ (body r ++ behind))

-- the gate before r is being written
pub record Opens (d : Disk) (epoch : List ℕ) (rs : List Record) (r : Record) (new : ℕ) : Type 0 where
  pub gate : ℕ
  pub behind : List ℕ
  pub is : d ≡ wrote (at_once (front epoch rs ++ gate ∷ (body r ++ behind))) (length (front epoch rs)) (new ∷ [])

-- the head of a side that has a header and one byte more
length_header : (epoch : List ℕ) → length epoch ≡ 8 → length (header epoch) ≡ 17
length_header epoch eight = omega (arith, eight)

pub head_headed : (epoch : List ℕ) (rest : List ℕ) → length epoch ≡ 8 → 1 ≤ length rest → head (header epoch ++ rest) ≡ Headed epoch
head_headed epoch rest eight some =
    let long : nat_lt (length (header epoch ++ rest)) 18 ≡ false = le-ltb _ _ (omega (arith, length-append (header epoch) rest, length_header epoch eight, some)) in
    ap (λ t. if t || false then Blank else Headed (take 8 (epoch ++ rest))) long ∙ ap (λ l. Headed l) (take_at epoch rest 8 eight)

pub drop_header : (epoch : List ℕ) (rest : List ℕ) → length epoch ≡ 8 → drop 17 (header epoch ++ rest) ≡ rest
drop_header epoch rest eight = drop_at (header epoch) rest 17 (length_header epoch eight)

pub reads_shut : (rs : List Record) (gate : ℕ) (rest : List ℕ) → ((r : Record) → Has rs r → IsRecord r) → gate ≢ 165 → Reads (blocks rs ++ gate ∷ rest) rs
reads_shut [] gate rest written shut = (gate, rest, refl, shut)
reads_shut (r ∷ rs) gate rest written shut = (blocks rs ++ gate ∷ rest, written r (inl refl), append_assoc (block r) (blocks rs) (gate ∷ rest), reads_shut rs gate rest (λ x h. written x (inr h)) shut)

pub block_size : (r : Record) → length (block r) ≡ size r
block_size r = omega (arith, length-append (165 ∷ le 4 (length (payload r))) (payload r))

-- the front is as long as the position of the gate after it
pub length_front : (epoch : List ℕ) (rs : List Record) → length epoch ≡ 8 → length (front epoch rs) ≡ gate_after rs
length_front epoch rs eight = length-append (header epoch) (blocks rs) ∙ (λ i. length_header epoch eight i + by rs i)
  where
    by : (rs : List Record) → length (blocks rs) ≡ sum_by size rs
    by [] = refl
    by (r ∷ rs) = omega (arith, length-append (block r) (blocks rs), block_size r, by rs, sum_by-append size (r ∷ []) rs)

pub gate_push : (rs : List Record) (r : Record) → gate_after (rs ++ r ∷ []) ≡ gate_after rs + size r
gate_push rs r = omega (arith, sum_by-append size rs (r ∷ []))

-- LIVE SIDE by its heads
pub live_on : (side : Side) (epoch : List ℕ) (a b : List ℕ) → head (of_side side a b) ≡ Headed epoch → IsOlder (head (of_side (other_side side) a b)) epoch → live (head a) (head b) ≡ On side
live_on A epoch a b here older = ap (λ h. live h (head b)) here ∙ by (head b) older
  where
    by : (h : Head) → IsOlder h epoch → live (Headed epoch) h ≡ On A
    by Blank older = refl
    by (Headed m) less = ap (λ t. if t then Wrong A else (if nat_lt (number m) (number epoch) then On A else On B)) (ne_eqb (number epoch) (number m) (λ e. omega (arith, e, less))) ∙ ap (λ t. if t then On A else On B) (lt-ltb (number m) (number epoch) less)
    by Foreign none = absurd none
live_on B epoch a b here older = ap (λ h. live (head a) h) here ∙ by (head a) older
  where
    by : (h : Head) → IsOlder h epoch → live h (Headed epoch) ≡ On B
    by Blank older = refl
    by (Headed m) less = ap (λ t. if t then Wrong A else (if nat_lt (number epoch) (number m) then On A else On B)) (ne_eqb (number m) (number epoch) (λ e. omega (arith, e, less))) ∙ ap (λ t. if t then On A else On B) (le-ltb (number epoch) (number m) (omega (arith, less)))
    by Foreign none = absurd none

-- A LIVE SIDE THAT ENDS IN A CLOSED GATE, whatever stands after it, has its records
pub on_shut : (side : Side) (epoch : List ℕ) (rs : List Record) (a b : List ℕ) (gate : ℕ) (rest : List ℕ) → length epoch ≡ 8 → ((r : Record) → Has rs r → IsRecord r) → IsOlder (head (of_side (other_side side) a b)) epoch → gate ≢ 165 → of_side side a b ≡ front epoch rs ++ gate ∷ rest → IsOn side a b rs
on_shut side epoch rs a b gate rest eight written older shut is =
    let whole : of_side side a b ≡ header epoch ++ (blocks rs ++ gate ∷ rest) = is ∙ append_assoc (header epoch) (blocks rs) (gate ∷ rest) in
    let here : head (of_side side a b) ≡ Headed epoch = ap head whole ∙ head_headed epoch (blocks rs ++ gate ∷ rest) eight (omega (arith, length-append (blocks rs) (gate ∷ rest))) in
    let on : live (head a) (head b) ≡ On side = live_on side epoch a b here older in
    let read : Reads (drop 17 (of_side side a b)) rs = subst (λ l. Reads l rs) (sym (ap (λ l. drop 17 l) whole ∙ drop_header epoch (blocks rs ++ gate ∷ rest) eight)) (reads_shut rs gate rest written shut) in
    record {
      live_is = on;
      reads = subst (λ l. RecordsOf l a b rs) (sym on) read;
      size = ap (λ l. size_of l rs) on;
    }

-- the bytes with the open gate are those of one record more
pub opened : (epoch : List ℕ) (rs : List Record) (r : Record) (rest : List ℕ) → front epoch rs ++ 165 ∷ (body r ++ rest) ≡ front epoch (rs ++ r ∷ []) ++ 0 ∷ rest
opened epoch rs r rest =
    let inner : block r ++ 0 ∷ rest ≡ 165 ∷ (body r ++ rest) = ap (λ l. 165 ∷ l)
    (append_assoc (le 4 (length (payload r))) (payload r) (0 ∷ rest)
    ∙ sym (append_assoc (le 4 (length (payload r))) (payload r ++ 0 ∷ []) rest ∙ ap (λ l. le 4 (length (payload r)) ++ l) (append_assoc (payload r) (0 ∷ []) rest))
    ∙ ap (λ l. l ++ rest) (sym (append_assoc (le 4 (length (payload r))) (payload r) (0 ∷ [])))) in
    append_assoc (header epoch) (blocks rs) (165 ∷ (body r ++ rest))
    ∙ ap (λ l. header epoch ++ (blocks rs ++ l)) (sym inner)
    ∙ ap (λ l. header epoch ++ l) (sym (blocks-push rs r (0 ∷ rest)))
    ∙ sym (append_assoc (header epoch) (blocks (rs ++ r ∷ [])) (0 ∷ rest))

-- and with the body of a record behind an open gate, one record more
pub on_open : (side : Side) (epoch : List ℕ) (rs : List Record) (r : Record) (a b : List ℕ) (rest : List ℕ) → length epoch ≡ 8 → ((q : Record) → Has rs q → IsRecord q) → IsRecord r → IsOlder (head (of_side (other_side side) a b)) epoch → of_side side a b ≡ front epoch rs ++ 165 ∷ (body r ++ rest) → IsOn side a b (rs ++ r ∷ [])
on_open side epoch rs r a b rest eight written is_r older is =
    on_shut side epoch (rs ++ r ∷ []) a b 0 rest eight (λ q h. elim (Has-append rs (r ∷ []) q h) [
      | inl g ↦ written q g
      | inr g ↦ elim g [ inl e ↦ subst (λ x. IsRecord x) e is_r | inr no' ↦ absurd no' ]
    ]) older (λ e. cc e) (is ∙ opened epoch rs r rest)

-- WHAT A STOP LEAVES in each state of the live side
module _ (epoch : List ℕ) (rs : List Record) where
  pub rests_image : (d : Disk) (image : List ℕ) → Rests d epoch rs → IsImage d image → (gate : ℕ) × (rest : List ℕ) × (gate ≢ 165) × (image ≡ front epoch rs ++ gate ∷ rest)
  rests_image d image s is =
      let bytes = front epoch rs ++ s.gate ∷ s.behind in
      (s.gate, s.behind, s.shut, synced_image (at_once bytes) image (subst (λ x. IsImage x image) s.is is))

  gate_first : (gate : ℕ) (behind : List ℕ) → take (length (front epoch rs) + 1) (front epoch rs ++ gate ∷ behind) ≡ front epoch rs ++ gate ∷ []
  gate_first gate behind = ap (λ l. take (length (front epoch rs) + 1) l) (sym (append_assoc (front epoch rs) (gate ∷ []) behind)) ∙ take_at (front epoch rs ++ gate ∷ []) behind _ (length-append (front epoch rs) (gate ∷ []))

  gate_rest : (gate : ℕ) (bytes : List ℕ) → take (length (front epoch rs) + 1) bytes ≡ front epoch rs ++ gate ∷ [] → bytes ≡ front epoch rs ++ gate ∷ drop (length (front epoch rs) + 1) bytes
  gate_rest gate bytes e =
      let n = length (front epoch rs) + 1 in
      sym (take-append-drop n bytes) ∙ ap (λ l. l ++ drop n bytes) e ∙ append_assoc (front epoch rs) (gate ∷ []) (drop n bytes)

  pub writes_image : (d : Disk) (image : List ℕ) → Writes d epoch rs → IsImage d image → (gate : ℕ) × (rest : List ℕ) × (gate ≢ 165) × (image ≡ front epoch rs ++ gate ∷ rest)
  writes_image d image s is =
      let n = length (front epoch rs) + 1 in
      let enough : n ≤ length d.durable = omega (arith, ap length s.durable, length-append (front epoch rs) (s.gate ∷ s.behind)) in
      let same : take n image ≡ front epoch rs ++ s.gate ∷ [] = front_kept d image n is enough s.enough s.later ∙ ap (λ l. take n l) s.durable ∙ gate_first s.gate s.behind in
      (s.gate, drop n image, s.shut, gate_rest s.gate image same)

  pub ready_image : (r : Record) (d : Disk) (image : List ℕ) → IsReady d epoch rs r → IsImage d image → (gate : ℕ) × (rest : List ℕ) × (gate ≢ 165) × (image ≡ front epoch rs ++ gate ∷ rest)
  ready_image r d image s is =
      let bytes = front epoch rs ++ s.gate ∷ (body r ++ s.behind) in
      (s.gate, body r ++ s.behind, s.shut, synced_image (at_once bytes) image (subst (λ x. IsImage x image) s.is is))

  pub opens_image : (r : Record) (new : ℕ) (d : Disk) (image : List ℕ) → Opens d epoch rs r new → IsImage d image → (gate : ℕ) × (rest : List ℕ) × (image ≡ front epoch rs ++ gate ∷ (body r ++ rest))
  opens_image r new d image s is =
      (get_or image (length (front epoch rs)) 0, s.behind, byte_image (front epoch rs) (body r ++ s.behind) image s.gate new (subst (λ x. IsImage x image) s.is is))

  -- THE STEPS
  body_put : (gate : ℕ) (behind bytes : List ℕ) → put (front epoch rs ++ gate ∷ behind) (length (front epoch rs) + 1) bytes ≡ front epoch rs ++ gate ∷ (bytes ++ drop (length (front epoch rs) + 1 + length bytes) (front epoch rs ++ gate ∷ behind))
  body_put gate behind bytes =
      let rest = drop (length (front epoch rs) + 1 + length bytes) (front epoch rs ++ gate ∷ behind) in
      ap (λ l. l ++ bytes ++ rest) (gate_first gate behind) ∙ append_assoc (front epoch rs ++ gate ∷ []) bytes rest ∙ append_assoc (front epoch rs) (gate ∷ []) (bytes ++ rest)

  pub rests_writes : (d : Disk) (bytes : List ℕ) → Rests d epoch rs → Writes (wrote d (length (front epoch rs) + 1) bytes) epoch rs
  rests_writes d bytes s =
      let old = front epoch rs ++ s.gate ∷ s.behind in
      subst (λ x. Writes (wrote x (length (front epoch rs) + 1) bytes) epoch rs) (sym s.is) (record {
        gate = s.gate;
        behind = s.behind;
        shut = s.shut;
        durable = refl;
        enough = omega (arith, ap length (body_put s.gate s.behind bytes), length-append (front epoch rs) (s.gate ∷ (bytes ++ drop (length (front epoch rs) + 1 + length bytes) old)));
        later = λ range h. elim h [ inl e ↦ subst (λ q. length (front epoch rs) + 1 ≤ q) (ap (λ q. q.0) e) (omega arith) | inr none ↦ absurd none ];
      })

  pub rests_ready : (d : Disk) (r : Record) → Rests d epoch rs → IsReady (synced (wrote d (length (front epoch rs) + 1) (body r))) epoch rs r
  rests_ready d r s =
      let old = front epoch rs ++ s.gate ∷ s.behind in
      let rest = drop (length (front epoch rs) + 1 + length (body r)) old in
      record {
        gate = s.gate;
        behind = rest;
        shut = s.shut;
        is = ap (λ x. synced (wrote x (length (front epoch rs) + 1) (body r))) s.is ∙ ap at_once (body_put s.gate s.behind (body r));
      }

  pub ready_opens : (d : Disk) (r : Record) (new : ℕ) → IsReady d epoch rs r → Opens (wrote d (length (front epoch rs)) (new ∷ [])) epoch rs r new
  ready_opens d r new s = record { gate = s.gate; behind = s.behind; is = ap (λ x. wrote x (length (front epoch rs)) (new ∷ [])) s.is }

  pub opens_rests : (d : Disk) (r : Record) → Opens d epoch rs r 165 → Rests (synced d) epoch (rs ++ r ∷ [])
  opens_rests d r s = record {
    gate = 0;
    behind = s.behind;
    shut = λ e. cc e;
    is = ap synced s.is ∙ ap at_once (put_one (front epoch rs) (body r ++ s.behind) s.gate 165 ∙ opened epoch rs r s.behind);
  }
