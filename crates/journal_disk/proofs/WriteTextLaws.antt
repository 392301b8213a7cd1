-- A text that is written in pieces.
use Rattle.std.proofs.Common.{◌≡◌, ◌⊎◌, inl, inr, ℕ, ◌+◌, ◌-◌, ◌<◌, ◌≤◌, Bool, List, [], ◌∷◌, ◌++◌, length, take, drop, Option, Some, None, Result, Ok, Err, refl, sym, ap, ◌∙◌, subst, arith, append_assoc, length-append, length-drop, take-append-drop}
use Rattle.std.specs.List.{flat_map}
use Rattle.std.specs.Prelude.{IfSome}
use Rattle.std.proofs.lemmas.List.{append-nil, take_all, length-take}
use Rattle.std.proofs.Math.Seq.{take-add}
use Rattle.std.proofs.lemmas.Bool.{cases_lt}
use Rattle.std.proofs.lemmas.Grind.{flat_map-append}
use Rattle.lab_base.specs.Lists.{Has}
use Rattle.lab_base.proofs.Members.{Has-append}
use Rattle.lab_base.proofs.Numbers.{plus_zero}
use Rattle.plant.specs.Disks.{Disk, disk, put}
use Rattle.plant.specs.DiskCalls.{WriteSteps}
use Rattle.plant.specs.Events.{Event, Wrote}
use Rattle.plant.specs.Told.{Told, with_steps}
use Rattle.plant.specs.declared.device.Fault.{Fault}
use Rattle.plant.specs.declared.device.Fault.TheVariants.{Failed, Stopped}
use Rattle.plant.specs.declared.step.Side.{Side}
use Rattle.plant.specs.declared.step.Side.TheVariants.{A, B}
use Rattle.plant.proofs.Traces.{disk_push}
use Rattle.journal_rec.specs.Payloads.{le}
use Rattle.journal_model.specs.Journals.{magic}
use Rattle.journal_disk.specs.Compacting.{side_text, AreFull, ArePieces, Begins, AreBegun, text_writes, WriteEnds, WritesText}
use Rattle.journal_disk.proofs.Chains.{chain, write_came}

abbrev pub joined : List (List ℕ) → List ℕ
joined pieces = flat_map (λ piece. piece) pieces

-- a piece more
poured_push : (side : Side) (at : ℕ) (pieces : List (List ℕ)) (piece : List ℕ) → text_writes side at (pieces ++ piece ∷ []) ≡ text_writes side at pieces ++ Wrote side (at + length (joined pieces)) piece ∷ []
poured_push side at [] piece = ap (λ n. Wrote side n piece ∷ []) (plus_zero at)
poured_push side at (first ∷ pieces) piece =
    ap (λ l. Wrote side at first ∷ l) (poured_push side (at + length first) pieces piece ∙ ap (λ n. text_writes side (at + length first) pieces ++ Wrote side n piece ∷ []) moved)
  where
    moved : (at + length first) + length (joined pieces) ≡ at + length (first ++ joined pieces)
    moved = omega (arith, length-append first (joined pieces))

pub pushed : (side : Side) (at n : ℕ) (pieces : List (List ℕ)) (piece : List ℕ) → n ≡ at + length (joined pieces) → text_writes side at pieces ++ Wrote side n piece ∷ [] ≡ text_writes side at (pieces ++ piece ∷ [])
pushed side at n pieces piece is = ap (λ m. text_writes side at pieces ++ Wrote side m piece ∷ []) is ∙ sym (poured_push side at pieces piece)

-- each of them has 65,536 bytes
abbrev pub AllFull : List (List ℕ) → Type 0
AllFull pieces = (piece : List ℕ) → Has pieces piece → length piece ≡ 65536

full_push : (pieces : List (List ℕ)) (last : List ℕ) → AllFull pieces → 0 < length last → length last ≤ 65536 → AreFull (pieces ++ last ∷ [])
full_push [] last all some small = (some, small)
full_push (piece ∷ []) last all some small = (all piece (inl refl), (some, small))
full_push (piece ∷ next ∷ pieces) last all some small = (all piece (inl refl), full_push (next ∷ pieces) last (λ p has. all p (inr has)) some small)

pub all_full_push : (pieces : List (List ℕ)) (last : List ℕ) → AllFull pieces → length last ≡ 65536 → AllFull (pieces ++ last ∷ [])
all_full_push pieces last all full p has = elim (Has-append pieces (last ∷ []) p has) [
  | inl before ↦ all p before
  | inr here ↦ elim here [ inl e ↦ subst (λ (l : List ℕ). length l ≡ 65536) e full | inr none ↦ absurd none ]
]

-- all bytes were written, or each piece is full
abbrev pub IsFilled : List ℕ → ℕ → List (List ℕ) → Type 0
IsFilled bytes done pieces = (length bytes ≤ done) ⊎ AllFull pieces

pub still_full : (bytes : List ℕ) (done : ℕ) (pieces : List (List ℕ)) → done < length bytes → IsFilled bytes done pieces → AllFull pieces
still_full bytes done pieces lt (inl all) = absurd (omega (arith, lt, all))
still_full bytes done pieces lt (inr full) = full

pub no_pieces : (bytes : List ℕ) → ArePieces (take 0 bytes) []
no_pieces bytes = record { whole = refl; full = tt }

pub none_yet : (bytes : List ℕ) → IsFilled bytes 0 []
none_yet bytes = inr (λ piece none. absurd none)

piece_length : (bytes : List ℕ) (done size : ℕ) → done + size ≤ length bytes → length (take size (drop done bytes)) ≡ size
piece_length bytes done size within = omega (arith, length-take size (drop done bytes), length-drop done bytes, within)

pub pieces_push : (bytes : List ℕ) (done size : ℕ) (pieces : List (List ℕ)) → ArePieces (take done bytes) pieces → done + size ≤ length bytes → 0 < size → size ≤ 65536 → AllFull pieces
    → ArePieces (take (done + size) bytes) (pieces ++ take size (drop done bytes) ∷ [])
pieces_push bytes done size pieces are within some small all = record {
  whole = flat_map-append (λ p. p) pieces (take size (drop done bytes) ∷ []) ∙ (λ i. are.whole i ++ append-nil (take size (drop done bytes)) i) ∙ sym (take-add done size bytes);
  full = let long = piece_length bytes done size within in full_push pieces (take size (drop done bytes)) all (omega (arith, long, some)) (omega (arith, long, small));
}

pub filled_push : (bytes : List ℕ) (done size : ℕ) (pieces : List (List ℕ)) → done + size ≤ length bytes → (size < length bytes - done → size ≡ 65536) → AllFull pieces
    → IsFilled bytes (done + size) (pieces ++ take size (drop done bytes) ∷ [])
filled_push bytes done size pieces within most all = elim (cases_lt (done + size) (length bytes)) [
  | inl lt ↦ inr (all_full_push pieces (take size (drop done bytes)) all (piece_length bytes done size within ∙ most (omega (arith, lt))))
  | inr le ↦ inl le
]

pub all_pieces : (bytes : List ℕ) (done : ℕ) (pieces : List (List ℕ)) → length bytes ≤ done → ArePieces (take done bytes) pieces → ArePieces bytes pieces
all_pieces bytes done pieces all are = subst (λ l. ArePieces l pieces) (take_all done bytes all) are

-- how long what was written of bytes is
pub joined_length : (bytes : List ℕ) (done : ℕ) (pieces : List (List ℕ)) → done ≤ length bytes → ArePieces (take done bytes) pieces → length (joined pieces) ≡ done
joined_length bytes done pieces within are = omega (arith, ap length are.whole, length-take done bytes)

-- a side is longer after a write
put_long : (old bytes : List ℕ) (at : ℕ) → at ≤ length old → at + length bytes ≤ length (put old at bytes)
put_long old bytes at within = omega (arith, length-append (take at old ++ bytes) (drop (at + length bytes) old), length-append (take at old) bytes, length-take at old)

pub wrote_long : (side : Side) (one two : Option Told) (at : ℕ) (bytes : List ℕ) → IfSome one (λ t. at ≤ length (disk side t.trace).reads) → two ≡ with_steps one (Wrote side at bytes ∷ []) → IfSome two (λ t. at + length bytes ≤ length (disk side t.trace).reads)
wrote_long side None two at bytes within is = subst (λ (o : Option Told). IfSome o (λ t. at + length bytes ≤ length (disk side t.trace).reads)) (sym is) tt
wrote_long side (Some t) two at bytes within is = subst (λ (o : Option Told). IfSome o (λ t. at + length bytes ≤ length (disk side t.trace).reads)) (sym is) (by side within)
  where
    by : (side : Side) → at ≤ length (disk side t.trace).reads → at + length bytes ≤ length (disk side (t.trace ++ Wrote side at bytes ∷ [])).reads
    by A h = subst (λ (d : Disk). at + length bytes ≤ length d.reads) (sym (disk_push A t.trace (Wrote A at bytes))) (put_long (disk A t.trace).reads bytes at h)
    by B h = subst (λ (d : Disk). at + length bytes ≤ length d.reads) (sym (disk_push B t.trace (Wrote B at bytes))) (put_long (disk B t.trace).reads bytes at h)

-- with the piece of a write that was not acknowledged
begun_with : (bytes : List ℕ) (pieces : List (List ℕ)) (piece other : List ℕ) (fault : Fault) → Begins bytes (joined pieces) → Begins bytes (joined (pieces ++ piece ∷ [])) → (fault ≡ Stopped → other ≡ piece) → AreBegun bytes fault (pieces ++ other ∷ [])
begun_with bytes pieces piece other Failed before after own = record { done = pieces; last = other ∷ []; are = refl; begins = before; few = omega arith; stopped = λ e. absurd (cc e) }
begun_with bytes pieces piece other Stopped before after own = record {
  done = pieces ++ other ∷ [];
  last = [];
  are = sym (append-nil (pieces ++ other ∷ []));
  begins = subst (λ l. Begins bytes (joined (pieces ++ l ∷ []))) (sym (own refl)) after;
  few = omega arith;
  stopped = λ e. refl;
}

pub begun_so : (bytes : List ℕ) (pieces : List (List ℕ)) (fault : Fault) → Begins bytes (joined pieces) → AreBegun bytes fault pieces
begun_so bytes pieces fault begins = record { done = pieces; last = []; are = sym (append-nil pieces); begins = begins; few = omega arith; stopped = λ e. refl }

-- what was written of bytes is a beginning of them
pub begins_so : (bytes : List ℕ) (done : ℕ) (pieces : List (List ℕ)) → ArePieces (take done bytes) pieces → Begins bytes (joined pieces)
begins_so bytes done pieces are = (drop done bytes, ap (λ l. l ++ drop done bytes) are.whole ∙ take-append-drop done bytes)

pub all_begins : (text : List ℕ) (pieces : List (List ℕ)) → ArePieces text pieces → Begins text (joined pieces)
all_begins text pieces are = ([], append-nil (joined pieces) ∙ are.whole)

-- a write that was not acknowledged
pub pours_left : (side : Side) (at n : ℕ) (bytes : List ℕ) (old one two : Option Told) (pieces : List (List ℕ)) (piece : List ℕ) (stopped : Bool) (fault : Fault) (steps : List Event) → Begins bytes (joined pieces) → Begins bytes (joined (pieces ++ piece ∷ [])) → one ≡ with_steps old (text_writes side at pieces) → n ≡ at + length (joined pieces)
    → two ≡ with_steps one steps → WriteSteps side n piece stopped (Err fault) steps → WritesText side at bytes old two (Err fault)
pours_left side at n bytes old one two pieces piece stopped fault steps before after first is second h =
    let c = write_came (text_writes side at) (λ far. AreBegun bytes fault far) old one two side pieces (λ other. pieces ++ other ∷ []) n piece stopped fault steps (begun_so bytes pieces fault before) (λ other len own. begun_with bytes pieces piece other fault before after own) first (λ other len. pushed side at n pieces other is) second h in
    record { pieces = c.far; more = c.more; trace = c.trace; ends = (c.last, c.may) }

pub pours_done : (side : Side) (at : ℕ) (bytes : List ℕ) (old new : Option Told) (pieces : List (List ℕ)) (u : Unit {0}) → ArePieces bytes pieces → new ≡ with_steps old (text_writes side at pieces) → WritesText side at bytes old new (Ok u)
pours_done side at bytes old new pieces u are is = record { pieces = pieces; more = []; trace = is ∙ ap (with_steps old) (sym (append-nil (text_writes side at pieces))); ends = (are, refl) }

some_first : (piece : List ℕ) (pieces : List (List ℕ)) → AreFull (piece ∷ pieces) → 0 < length piece
some_first piece [] full = full.0
some_first piece (next ∷ pieces) full = omega (arith, full.0)

-- the first piece, with the header, and then the rest
module _ (side : Side) (epoch first : ℕ) (records : List ℕ) (old one : Option Told) (written : one ≡ with_steps old (Wrote side 1 (side_text epoch (take first records)) ∷ [])) (within : first ≤ length records) (small : 16 + first ≤ 65536) (most : first < length records → 16 + first ≡ 65536) where
  head_length : length (side_text epoch (take first records)) ≡ 16 + first
  head_length = omega (arith, length-append (magic ++ le 8 epoch) (take first records), length-take first records, within)

  whole_text : side_text epoch (take first records) ++ drop first records ≡ side_text epoch records
  whole_text = append_assoc (magic ++ le 8 epoch) (take first records) (drop first records) ∙ ap (λ l. side_text epoch l) (take-append-drop first records)

  -- where more stand after it, the first piece is full
  full_first : (pieces : List (List ℕ)) → flat_map (λ piece. piece) pieces ≡ drop first records → AreFull pieces → AreFull (side_text epoch (take first records) ∷ pieces)
  full_first [] is full = (omega (arith, head_length), omega (arith, head_length, small))
  full_first (piece ∷ pieces) is full =
      let some : 0 < length piece = some_first piece pieces full in
      let left : first < length records = omega (arith, some, ap length is, length-append piece (joined pieces), length-drop first records) in
      (head_length ∙ most left, full)

  pieces_joined : (pieces : List (List ℕ)) → ArePieces (drop first records) pieces → ArePieces (side_text epoch records) (side_text epoch (take first records) ∷ pieces)
  pieces_joined pieces are = record {
    whole = ap (λ l. side_text epoch (take first records) ++ l) are.whole ∙ whole_text;
    full = full_first pieces are.whole are.full;
  }

  -- a beginning of the rest after the first piece
  begun_after : (fault : Fault) (pieces : List (List ℕ)) → AreBegun (drop first records) fault pieces → AreBegun (side_text epoch records) fault (side_text epoch (take first records) ∷ pieces)
  begun_after fault pieces b = record {
    done = side_text epoch (take first records) ∷ b.done;
    last = b.last;
    are = ap (λ l. side_text epoch (take first records) ∷ l) b.are;
    begins = (b.begins.0, append_assoc (side_text epoch (take first records)) (joined b.done) b.begins.0 ∙ ap (λ l. side_text epoch (take first records) ++ l) b.begins.1 ∙ whole_text);
    few = b.few;
    stopped = b.stopped;
  }

  pub pours_joined : (new : Option Told) (n : ℕ) (result : Result (Unit {0}) Fault) → n ≡ 17 + first → WritesText side n (drop first records) one new result → WritesText side 1 (side_text epoch records) old new result
  pours_joined new n result is p = record {
    pieces = side_text epoch (take first records) ∷ p.pieces;
    more = p.more;
    trace = chain old one new (Wrote side 1 (side_text epoch (take first records)) ∷ []) (text_writes side n p.pieces ++ p.more) _ written p.trace
        (ap (λ m. Wrote side 1 (side_text epoch (take first records)) ∷ (text_writes side m p.pieces ++ p.more)) (omega (arith, is, head_length)));
    ends = by result p.ends;
  }
    where
      by : (result : Result (Unit {0}) Fault) → WriteEnds side (drop first records) result p.pieces p.more → WriteEnds side (side_text epoch records) result (side_text epoch (take first records) ∷ p.pieces) p.more
      by (Ok u) ends = (pieces_joined p.pieces ends.0, ends.1)
      by (Err fault) ends = (ends.0, begun_after fault p.pieces ends.1)

-- the first piece is a beginning of the text
pub head_begins : (epoch first : ℕ) (records piece : List ℕ) → piece ≡ take first records → Begins (side_text epoch records) (joined (side_text epoch piece ∷ []))
head_begins epoch first records piece is = (
  drop first records,
  ap (λ l. l ++ drop first records) (append-nil (side_text epoch piece))
      ∙ ap (λ l. side_text epoch l ++ drop first records) is
      ∙ append_assoc (magic ++ le 8 epoch) (take first records) (drop first records)
      ∙ ap (λ l. side_text epoch l) (take-append-drop first records),
)

-- where the rest is to be written
pub rest_within : (side : Side) (epoch first : ℕ) (records : List ℕ) (old one : Option Told) → IfSome old (λ t. 1 ≤ length (disk side t.trace).reads) → one ≡ with_steps old (Wrote side 1 (side_text epoch (take first records)) ∷ []) → first ≤ length records
    → IfSome one (λ t. 17 + first ≤ length (disk side t.trace).reads)
rest_within side epoch first records old one within is short =
    let long = wrote_long side old one 1 (side_text epoch (take first records)) within is in
    subst (λ n. IfSome one (λ t. n ≤ length (disk side t.trace).reads)) (size (length (side_text epoch (take first records))) first sized) long
  where
    size : (m n : ℕ) → m ≡ 16 + n → 1 + m ≡ 17 + n
    size m n h = omega (arith, h)

    sized : length (side_text epoch (take first records)) ≡ 16 + first
    sized = omega (arith, length-append (magic ++ le 8 epoch) (take first records), length-take first records, short)
