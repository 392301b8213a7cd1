-- Syncs leave fewer images, and after both the live side rests.
use Rattle.std.specs.Str.{bytes_eq}
use Rattle.std.proofs.Common.{fold, ◌≡◌, ◌≢◌, inl, inr, ℕ, min, ◌+◌, ◌-◌, ◌<◌, ◌≤◌, ◌||◌, ◌==◌, Bool, true, false, not, nat_lt, if◌then◌else◌, List, [], ◌∷◌, ◌++◌, length, take, drop, get_or, refl, sym, ap, ◌∙◌, subst, arith, append_assoc, length-append, take-append-drop}
use Rattle.std.proofs.lemmas.List.{get_or_append_left, get_or-append-add, get_or-take, get_or-drop, length-take, length-drop}
use Rattle.std.proofs.lemmas.Bool.{cases_eq, or_parts, not-false, eqb-true, eqb-false, ltb-false, ltb-true}
use Rattle.std.proofs.lemmas.Slice.Eq.{bytes_eq-Decides}
use Rattle.lab_base.specs.Lists.{Has}
use Rattle.lab_base.proofs.Numbers.{add_back}
use Rattle.plant.specs.Disks.{Disk, put, wrote, synced, shortened, IsImage, at_once, disk, disk_after, ArePossible}
use Rattle.plant.specs.Events.{Event, Missed, Did, Restarted, Cut as CutTo, Wrote, Synced, Unread}
use Rattle.plant.specs.declared.step.Side.{Side}
use Rattle.plant.specs.declared.step.Side.TheVariants.{A, B}
use Rattle.plant.specs.Sides.{of_side}
use Rattle.plant.proofs.Traces.{disk_push}
use Rattle.journal_rec.specs.declared.record.Record.{Record}
use Rattle.journal_rec.specs.Payloads.{number, IsRecord}
use Rattle.journal_rec.specs.Packing.{block, blocks}
use Rattle.journal_model.specs.Journals.{magic, header, Head, Blank, Foreign, Headed, head, Live, On, Wrong, live, Reads}
use Rattle.journal_model.specs.Appends.{other_side, IsOlder, IsReadable, IsWithin, AreWithin, IsLawful, Opened}
use Rattle.journal_model.proofs.Images.{synced_image}
use Rattle.journal_model.proofs.Gates.{drop_header}

-- AS A SIDE READS is a possible image, whatever is done to it within it
pub readable_image : (d : Disk) → IsReadable d → IsImage d d.reads
readable_image d h = record { no_shorter = omega arith; no_longer = omega arith; kept = λ k a b free. h.kept k a b free }

pub readable_once : (bytes : List ℕ) → IsReadable (at_once bytes)
readable_once bytes = record { kept = λ k a b free. refl }

pub readable_synced : (d : Disk) → IsReadable (synced d)
readable_synced d = record { kept = λ k a b free. refl }

pub readable_shortened : (d : Disk) (n : ℕ) → IsReadable d → IsReadable (shortened d n)
readable_shortened d n h = record {
  kept = λ k a b free.
      let within : k < n = omega (arith, b, length-take n d.reads) in
      let inside : k < length d.reads = omega (arith, b, length-take n d.reads) in
      get_or-take n d.reads k 0 within ∙ h.kept k a inside free;
}

pub readable_wrote : (d : Disk) (at : ℕ) (bytes : List ℕ) → at ≤ length d.reads → IsReadable d → IsReadable (wrote d at bytes)
readable_wrote d at bytes within h = record {
  kept = λ k a b free.
      let rest = drop (at + length bytes) d.reads in
      let size : length (put d.reads at bytes) ≡ at + (length bytes + (length d.reads - (at + length bytes))) = omega (arith, length-append (take at d.reads ++ bytes) rest, length-append (take at d.reads) bytes, length-take at d.reads, length-drop (at + length bytes) d.reads, within) in
      elim (free (at, at + length bytes) (inl refl)) [
        | inl below ↦
            let inside : k < length d.reads = omega (arith, below, within) in
            let first : k < length (take at d.reads) = omega (arith, below, within, length-take at d.reads) in
            let second : k < length (take at d.reads ++ bytes) = omega (arith, first, length-append (take at d.reads) bytes) in
            get_or_append_left (take at d.reads ++ bytes) rest 0 k second ∙ get_or_append_left (take at d.reads) bytes 0 k first ∙ get_or-take at d.reads k 0 below ∙ h.kept k a inside (λ r g. free r (inr g))
        | inr above ↦
            let inside : k < length d.reads = omega (arith, above, b, size) in
            let seam : length (take at d.reads ++ bytes) ≡ at + length bytes = omega (arith, length-append (take at d.reads) bytes, length-take at d.reads, within) in
            let place : k ≡ length (take at d.reads ++ bytes) + (k - (at + length bytes)) = omega (arith, seam, above) in
            ap (λ n. get_or (put d.reads at bytes) n 0) place
            ∙ get_or-append-add (take at d.reads ++ bytes) rest (k - (at + length bytes)) 0
            ∙ get_or-drop (at + length bytes) d.reads (k - (at + length bytes)) 0
            ∙ ap (λ n. get_or d.reads n 0) (add_back k (at + length bytes) above)
            ∙ h.kept k a inside (λ r g. free r (inr g))
      ];
}

readable_after : (side : Side) (d : Disk) (event : Event) → IsWithin side d event → IsReadable d → IsReadable (disk_after side d event)
readable_after A d (Wrote A at bytes) within h = readable_wrote d at bytes within h
readable_after B d (Wrote B at bytes) within h = readable_wrote d at bytes within h
readable_after A d (Wrote B at bytes) within h = h
readable_after B d (Wrote A at bytes) within h = h
readable_after A d (Synced A) within h = readable_synced d
readable_after B d (Synced B) within h = readable_synced d
readable_after A d (Synced B) within h = h
readable_after B d (Synced A) within h = h
readable_after A d (CutTo A size) within h = readable_shortened d size h
readable_after B d (CutTo B size) within h = readable_shortened d size h
readable_after A d (CutTo B size) within h = h
readable_after B d (CutTo A size) within h = h
readable_after A d (Restarted a b) within h = readable_once a
readable_after B d (Restarted a b) within h = readable_once b
readable_after A d (Missed side) within h = h
readable_after B d (Missed side) within h = h
readable_after A d (Did op applied answer) within h = h
readable_after B d (Did op applied answer) within h = h
readable_after A d (Unread device) within h = h
readable_after B d (Unread device) within h = h

readable_along : (side : Side) (d : Disk) (events : List Event) → AreWithin side d events → IsReadable d → IsReadable (fold (disk_after side) d events)
readable_along side d [] within h = h
readable_along side d (event ∷ events) within h = readable_along side (disk_after side d event) events within.1 (readable_after side d event within.0 h)

-- A LAWFUL TRACE: as a side reads is always a possible image
pub lawful_readable : (side : Side) (trace : List Event) → IsLawful side trace → IsReadable (disk side trace)
lawful_readable side trace lawful = readable_along side (at_once []) trace lawful (readable_once [])

-- A SYNC leaves only images that were possible before
pub synced_fewer : (side : Side) (trace : List Event) (a b : List ℕ) → IsReadable (disk side trace) → ArePossible (trace ++ Synced side ∷ []) a b → ArePossible trace a b
synced_fewer A trace a b readable possible =
    let now : IsImage (synced (disk A trace)) a × IsImage (disk B trace) b = rw (disk_push A trace (Synced A), disk_push B trace (Synced A)) at possible in
    (subst (λ l. IsImage (disk A trace) l) (sym (synced_image (disk A trace) a now.0)) (readable_image (disk A trace) readable), now.1)
synced_fewer B trace a b readable possible =
    let now : IsImage (disk A trace) a × IsImage (synced (disk B trace)) b = rw (disk_push A trace (Synced B), disk_push B trace (Synced B)) at possible in
    (now.0, subst (λ l. IsImage (disk B trace) l) (sym (synced_image (disk B trace) b now.1)) (readable_image (disk B trace) readable))

-- THE HEAD'S BYTES
pick : (t u : Bool) (v epoch : List ℕ) → ◌≡◌ {A = Head} (if t then Blank else if u then Headed v else Foreign) (Headed epoch) → (t ≡ false) × (u ≡ true) × (v ≡ epoch)
pick true u v epoch h = absurd (cc h)
pick false true v epoch h = (refl, refl, inside h)
  where
    inside : ◌≡◌ {A = Head} (Headed v) (Headed epoch) → v ≡ epoch
    inside h = cc h
pick false false v epoch h = absurd (cc h)

-- a side with a header is that header and what follows it
pub headed_bytes : (bytes epoch : List ℕ) → head bytes ≡ Headed epoch → (rest : List ℕ) × (bytes ≡ header epoch ++ rest) × (length epoch ≡ 8)
headed_bytes [] epoch h = absurd (cc h)
headed_bytes (x ∷ y) epoch h =
    let t = pick (nat_lt (length (x ∷ y)) 18 || not (x == 165)) (bytes_eq (take 8 y) magic) (take 8 (drop 8 y)) epoch h in
    let tests : (nat_lt (length (x ∷ y)) 18 ≡ false) × (not (x == 165) ≡ false) = or_parts _ _ t.0 in
    let long : 18 ≤ length (x ∷ y) = ltb-false _ _ tests.0 in
    let is_open : x ≡ 165 = eqb-true _ _ (not-false _ tests.1) in
    let named : take 8 y ≡ magic = (bytes_eq-Decides (take 8 y) magic).0 t.1 in
    let first : y ≡ take 8 y ++ drop 8 y = sym (take-append-drop 8 y) in
    let second : drop 8 y ≡ take 8 (drop 8 y) ++ drop 8 (drop 8 y) = sym (take-append-drop 8 (drop 8 y)) in
    let whole : y ≡ magic ++ (epoch ++ drop 8 (drop 8 y)) = first ∙ ap (λ l. l ++ drop 8 y) named ∙ ap (λ l. magic ++ l) (second ∙ ap (λ l. l ++ drop 8 (drop 8 y)) t.2) in
    (drop 8 (drop 8 y), (λ i. is_open i ∷ whole i), sym (ap length t.2) ∙ length-take 8 (drop 8 y) ∙ enough y (omega (arith, long)))
  where
    enough : (y : List ℕ) → 17 ≤ length y → min 8 (length (drop 8 y)) ≡ 8
    enough y h = omega (arith, length-drop 8 y)

-- and has 18 bytes
pub headed_long : (bytes epoch : List ℕ) → head bytes ≡ Headed epoch → 18 ≤ length bytes
headed_long [] epoch h = absurd (cc h)
headed_long (x ∷ y) epoch h =
    let t = pick (nat_lt (length (x ∷ y)) 18 || not (x == 165)) (bytes_eq (take 8 y) magic) (take 8 (drop 8 y)) epoch h in
    let tests : (nat_lt (length (x ∷ y)) 18 ≡ false) × (not (x == 165) ≡ false) = or_parts _ _ t.0 in
    ltb-false _ _ tests.0

-- the bytes of records are their blocks and a closed gate
pub reads_bytes : (bytes : List ℕ) (rs : List Record) → Reads bytes rs → (gate : ℕ) × (rest : List ℕ) × (gate ≢ 165) × (bytes ≡ blocks rs ++ gate ∷ rest) × ((r : Record) → Has rs r → IsRecord r)
reads_bytes bytes [] h = (h.0, h.1, h.3, h.2, λ r g. absurd g)
reads_bytes bytes (r ∷ rs) h =
    let more = reads_bytes h.0 rs h.3 in
    (more.0, more.1, more.2, h.2 ∙ ap (λ l. block r ++ l) more.3 ∙ sym (append_assoc (block r) (blocks rs) (more.0 ∷ more.1)), λ q g. elim g [ inl e ↦ subst (λ x. IsRecord x) e h.1 | inr k ↦ more.4 q k ])

-- LIVE SIDE, back
on_a : (t u : Bool) → ◌≡◌ {A = Live} (if t then Wrong A else if u then On A else On B) (On A) → u ≡ true
on_a true u h = absurd (cc h)
on_a false true h = refl
on_a false false h = absurd (cc (same h))
  where
    same : ◌≡◌ {A = Live} (On B) (On A) → B ≡ A
    same h = cc h

on_b : (t u : Bool) → ◌≡◌ {A = Live} (if t then Wrong A else if u then On A else On B) (On B) → (t ≡ false) × (u ≡ false)
on_b true u h = absurd (cc h)
on_b false true h = absurd (cc (same h))
  where
    same : ◌≡◌ {A = Live} (On A) (On B) → A ≡ B
    same h = cc h
on_b false false h = (refl, refl)

live_a : (h k : Head) → live h k ≡ On A → (epoch : List ℕ) × (h ≡ Headed epoch) × IsOlder k epoch
live_a Foreign k e = absurd (cc e)
live_a Blank Foreign e = absurd (cc e)
live_a (Headed m) Foreign e = absurd (cc e)
live_a Blank Blank e = absurd (cc e)
live_a (Headed m) Blank e = (m, refl, tt)
live_a Blank (Headed n) e = absurd (cc (same e))
  where
    same : ◌≡◌ {A = Live} (On B) (On A) → B ≡ A
    same h = cc h
live_a (Headed m) (Headed n) e = (m, refl, ltb-true _ _ (on_a (number m == number n) (nat_lt (number n) (number m)) e))

live_b : (h k : Head) → live h k ≡ On B → (epoch : List ℕ) × (k ≡ Headed epoch) × IsOlder h epoch
live_b Foreign k e = absurd (cc e)
live_b Blank Foreign e = absurd (cc e)
live_b (Headed m) Foreign e = absurd (cc e)
live_b Blank Blank e = absurd (cc e)
live_b (Headed m) Blank e = absurd (cc (same e))
  where
    same : ◌≡◌ {A = Live} (On A) (On B) → A ≡ B
    same h = cc h
live_b Blank (Headed n) e = (n, refl, tt)
live_b (Headed m) (Headed n) e =
    let tests = on_b (number m == number n) (nat_lt (number n) (number m)) e in
    (n, refl, below (eqb-false _ _ tests.0) (ltb-false _ _ tests.1))
  where
    below : (number m ≡ number n → ⊥) → number m ≤ number n → number m < number n
    below apart h = elim (cases_eq (number m) (number n)) [ inl e ↦ absurd (apart e) | inr d ↦ omega (arith, d, h) ]

pub live_back : (side : Side) (a b : List ℕ) → live (head a) (head b) ≡ On side → (epoch : List ℕ) × (head (of_side side a b) ≡ Headed epoch) × IsOlder (head (of_side (other_side side) a b)) epoch
live_back A a b e = live_a (head a) (head b) e
live_back B a b e = live_b (head a) (head b) e

once_at : (side : Side) (trace : List Event) (a b : List ℕ) → disk A trace ≡ at_once a → disk B trace ≡ at_once b → disk side trace ≡ at_once (of_side side a b)
once_at A trace a b p q = p
once_at B trace a b p q = q

-- WITH BOTH SIDES SYNCED, a side that is live rests
pub opened_from : (trace : List Event) (a b : List ℕ) (side : Side) (rs : List Record) → disk A trace ≡ at_once a → disk B trace ≡ at_once b → live (head a) (head b) ≡ On side → Reads (drop 17 (of_side side a b)) rs → Opened trace side rs
opened_from trace a b side rs is_a is_b on reads =
    let h = live_back side a b on in
    let bytes = headed_bytes (of_side side a b) h.0 h.1 in
    let inner : Reads bytes.0 rs = subst (λ l. Reads l rs) (ap (λ l. drop 17 l) bytes.1 ∙ drop_header h.0 bytes.0 bytes.2) reads in
    let r = reads_bytes bytes.0 rs inner in
    record {
      epoch = h.0;
      known = record {
        eight = bytes.2;
        written = r.4;
        other = of_side (other_side side) a b;
        there = once_at (other_side side) trace a b is_a is_b;
        older = h.2;
      };
      rests = record {
        gate = r.0;
        behind = r.1;
        shut = r.2;
        is = once_at side trace a b is_a is_b ∙ ap at_once (bytes.1 ∙ ap (λ l. header h.0 ++ l) r.3 ∙ sym (append_assoc (header h.0) (blocks rs) (r.0 ∷ r.1)));
      };
    }
