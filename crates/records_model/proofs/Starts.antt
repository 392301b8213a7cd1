-- How the controller gets to work: an opening, and a new journal.
use Rattle.std.proofs.Common.{ℕ, ◌≡◌, ◌≢◌, ◌⊎◌, inl, inr, ◌+◌, ◌^◌, ◌<◌, ◌≤◌, ◌||◌, ◌==◌, not, List, [], ◌∷◌, ◌++◌, length, refl, sym, ap, ◌∙◌, subst, arith}
use Rattle.std.proofs.lemmas.Bool.{cases_lt, le-ltb, eq-eqb}
use Rattle.std.proofs.lemmas.List.Sums.{count_by-le-length}
use Rattle.plant.specs.Disks.{wrote, synced, IsImage, at_once, disk, ArePossible}
use Rattle.plant.specs.Events.{Event, Wrote, Synced, Missed, Restarted}
use Rattle.plant.specs.Worlds.{world_of}
use Rattle.plant.specs.declared.step.Side.{Side}
use Rattle.plant.specs.declared.step.Side.TheVariants.{A, B}
use Rattle.plant.proofs.Traces.{disk_push}
use Rattle.journal_rec.specs.declared.record.Record.{Record}
use Rattle.lab_model.specs.Sound.{is_moving, Standing, Keeps, SoundAt}
use Rattle.journal_rec.specs.Payloads.{le}
use Rattle.journal_model.specs.Journals.{Blank, head, Live, New, On, Wrong, live, gate_after, size, RecordsOf, size_of, journal_length}
use Rattle.journal_model.specs.Appends.{IsReadable, Opened, Rests}
use Rattle.journal_model.specs.Making.{IsShort, IsClosed, made_header, HasHeader}
use Rattle.records_model.specs.Labs.{LabState, at_first, Texts, AreCanonical, LabOf, Sane}
use Rattle.records_model.specs.Appends.{standing, StandFor}
use Rattle.records_model.specs.Works.{IsSound, AtWork, HasRoom}
use Rattle.records_model.specs.Openings.{Blanks, Finds, nothing, works}
use Rattle.lab_model.proofs.TraceLaws.{world_push}
use Rattle.journal_model.proofs.Gates.{gate_push}
use Rattle.journal_model.proofs.Readings.{records_once}
use Rattle.journal_model.proofs.Syncs.{readable_image, readable_once, opened_from}
use Rattle.records_model.proofs.TraceLaws.{synced_sound}
use Rattle.journal_model.proofs.Making.{short_closed, closed_header, header_rests, heads_blank, open_not_blank}
use Rattle.records_model.proofs.TraceLaws.{sound_push, restart_sound}
use Rattle.records_model.proofs.LabLaws.{folds_once}
use Rattle.records_model.proofs.Making.{blanks_wrote, blanks_synced, keeps_made, clear_sound, closed_sound, heading_sound, header_sound, opening_sound, made}
use Rattle.records_model.proofs.Work.{rest_sound}

-- THE TWO SYNCS of an opening keep the trace sound
pub syncs_sound : (t : Texts) (trace : List Event) → IsReadable (disk A trace) → IsReadable (disk B trace) → IsSound t trace → IsSound t (trace ++ Synced A ∷ []) × IsSound t ((trace ++ Synced A ∷ []) ++ Synced B ∷ [])
syncs_sound t trace read_a read_b sound =
    let now : SoundAt (λ a b s. StandFor t a b s) trace = subst (λ l. SoundAt (λ a b s. StandFor t a b s) l) (Rattle.std.proofs.lemmas.List.take_all (length trace) trace (omega arith)) (sound (length trace) (omega arith)) in
    let first_at = synced_sound (λ a b s. StandFor t a b s) A trace read_a now in
    let first = sound_push (λ a b s. StandFor t a b s) trace (Synced A) sound first_at in
    let read : IsReadable (disk B (trace ++ Synced A ∷ [])) = subst (λ d. IsReadable d) (sym (disk_push B trace (Synced A))) read_b in
    let second_at = synced_sound (λ a b s. StandFor t a b s) B (trace ++ Synced A ∷ []) read first_at in
    (first, sound_push (λ a b s. StandFor t a b s) (trace ++ Synced A ∷ []) (Synced B) first second_at)

-- after them there is one image of each side
synced_disks : (trace : List Event) → (disk A ((trace ++ Synced A ∷ []) ++ Synced B ∷ []) ≡ at_once (disk A trace).reads) × (disk B ((trace ++ Synced A ∷ []) ++ Synced B ∷ []) ≡ at_once (disk B trace).reads)
synced_disks trace = (
  disk_push A (trace ++ Synced A ∷ []) (Synced B) ∙ disk_push A trace (Synced A),
  disk_push B (trace ++ Synced A ∷ []) (Synced B) ∙ ap synced (disk_push B trace (Synced A)),
)

pub opening : (t : Texts) (trace : List Event) → IsReadable (disk A trace) → IsReadable (disk B trace) → IsSound t trace → Finds t ((trace ++ Synced A ∷ []) ++ Synced B ∷ [])
opening t trace read_a read_b sound =
    let now = (trace ++ Synced A ∷ []) ++ Synced B ∷ [] in
    let disks = synced_disks trace in
    let a = (disk A trace).reads in
    let b = (disk B trace).reads in
    let all = (syncs_sound t trace read_a read_b sound).1 in
    let at : SoundAt (λ a b s. StandFor t a b s) now = subst (λ l. SoundAt (λ a b s. StandFor t a b s) l) (Rattle.std.proofs.lemmas.List.take_all (length now) now (omega arith)) (all (length now) (omega arith)) in
    let image_a : IsImage (disk A now) a = subst (λ d. IsImage d a) (sym disks.0) (readable_image (at_once a) (record { kept = λ k p q r. refl })) in
    let image_b : IsImage (disk B now) b = subst (λ d. IsImage d b) (sym disks.1) (readable_image (at_once b) (record { kept = λ k p q r. refl })) in
    let x = at a b (image_a, image_b) in
    by now a b disks.0 disks.1 all x.0 x.1 x.2 (live (head a) (head b)) refl x.1.read
  where
    by : (now : List Event) (a b : List ℕ) → disk A now ≡ at_once a → disk B now ≡ at_once b → IsSound t now → (st : Standing) (f : StandFor t a b st) → Keeps (world_of now) st → (l : Live) → live (head a) (head b) ≡ l → RecordsOf (live (head a) (head b)) a b f.records → Finds t now
    by now a b is_a is_b all st f keeps New is read =
        let none : f.records ≡ [] = subst (λ l. RecordsOf l a b f.records) is read in
        let first : at_first ≡ f.state = subst (λ rs. LabOf t rs f.state) none f.lab_of in
        let both = heads_blank (head a) (head b) is in
        let size : journal_length a b f.records ≡ 0 = ap (λ l. size_of l f.records) is in
        let st_is : st ≡ standing at_first 0 = f.is ∙ (λ i. standing (sym first i) (size i)) in
        nothing (record { other = b; there = is_b; blank_there = both.1; keeps = subst (λ x. Keeps (world_of now) x) st_is keeps }) a is_a both.0
    by now a b is_a is_b all st f keeps (On side) is read =
        let size : journal_length a b f.records ≡ gate_after f.records + 1 = ap (λ l. size_of l f.records) is in
        works side f.records f.state (record {
          opened = opened_from now a b side f.records is_a is_b is (subst (λ l. RecordsOf l a b f.records) is read);
          lab_of = f.lab_of;
          keeps = subst (λ x. Keeps (world_of now) x) (f.is ∙ ap (λ n. standing f.state n) size) keeps;
          sound = all;
        })
    by now a b is_a is_b all st f keeps (Wrong side) is read = absurd (subst (λ l. RecordsOf l a b f.records) is read)

-- A NEW JOURNAL: side A is short, or begins with a closed gate
pub blank_cases : (bytes : List ℕ) → head bytes ≡ Blank → (length bytes < 18) ⊎ ((gate : ℕ) × (rest : List ℕ) × (gate ≢ 165) × (bytes ≡ gate ∷ rest))
blank_cases [] h = inl (omega arith)
blank_cases (x ∷ y) h = elim (cases_lt (length (x ∷ y)) 18) [
  | inl short ↦ inl short
  | inr long ↦ inr (x, y, (λ is_open. open_not_blank x y (ap (λ t. t || not (x == 165)) (le-ltb (length (x ∷ y)) 18 long) ∙ ap not (eq-eqb x 165 is_open)) h), refl)
]

abbrev Ok : Texts → List Event → Type 0
Ok t trace = SoundAt (λ a b s. StandFor t a b s) trace

-- its first two steps, where the side is short
pub cleared : (t : Texts) (trace : List Event) → Blanks trace → IsSound t trace → IsShort (disk A trace) →
    (IsSound t (trace ++ Wrote A 0 (0 ∷ []) ∷ [])) × (IsSound t ((trace ++ Wrote A 0 (0 ∷ []) ∷ []) ++ Synced A ∷ [])) × Blanks ((trace ++ Wrote A 0 (0 ∷ []) ∷ []) ++ Synced A ∷ []) × IsClosed (disk A ((trace ++ Wrote A 0 (0 ∷ []) ∷ []) ++ Synced A ∷ []))
cleared t trace b sound short =
    let one = trace ++ Wrote A 0 (0 ∷ []) ∷ [] in
    let two = one ++ Synced A ∷ [] in
    let b2 : Blanks two = blanks_synced one (blanks_wrote trace 0 (0 ∷ []) b) in
    let first : IsSound t one = sound_push (λ a b s. StandFor t a b s) trace (Wrote A 0 (0 ∷ [])) sound (clear_sound t trace b 0 short) in
    let is : disk A two ≡ synced (wrote (disk A trace) 0 (0 ∷ [])) = disk_push A one (Synced A) ∙ ap synced (disk_push A trace (Wrote A 0 (0 ∷ []))) in
    let shut : IsClosed (disk A two) = subst (λ d. IsClosed d) (sym is) (short_closed (disk A trace) short) in
    (first, sound_push (λ a b s. StandFor t a b s) one (Synced A) first (closed_sound t two b2 shut), b2, shut)

-- its last four steps
pub makes : (t : Texts) (trace : List Event) → Blanks trace → IsSound t trace → IsClosed (disk A trace) → AtWork t ((((trace ++ Wrote A 1 made_header ∷ []) ++ Synced A ∷ []) ++ Wrote A 0 (165 ∷ []) ∷ []) ++ Synced A ∷ []) A [] at_first
makes t trace b sound shut =
    let one = trace ++ Wrote A 1 made_header ∷ [] in
    let two = one ++ Synced A ∷ [] in
    let three = two ++ Wrote A 0 (165 ∷ []) ∷ [] in
    let four = three ++ Synced A ∷ [] in
    let b2 : Blanks two = blanks_synced one (blanks_wrote trace 1 made_header b) in
    let b4 : Blanks four = blanks_synced three (blanks_wrote two 0 (165 ∷ []) b2) in
    let first : IsSound t one = sound_push (λ a b s. StandFor t a b s) trace (Wrote A 1 made_header) sound (heading_sound t trace b made_header shut) in
    let is2 : disk A two ≡ synced (wrote (disk A trace) 1 made_header) = disk_push A one (Synced A) ∙ ap synced (disk_push A trace (Wrote A 1 made_header)) in
    let has : HasHeader (disk A two) = subst (λ d. HasHeader d) (sym is2) (closed_header (disk A trace) shut) in
    let second : IsSound t two = sound_push (λ a b s. StandFor t a b s) one (Synced A) first (header_sound t two b2 has) in
    let third : IsSound t three = sound_push (λ a b s. StandFor t a b s) two (Wrote A 0 (165 ∷ [])) second (opening_sound t two b2 165 has) in
    let is4 : disk A four ≡ synced (wrote (disk A two) 0 (165 ∷ [])) = disk_push A three (Synced A) ∙ ap synced (disk_push A two (Wrote A 0 (165 ∷ []))) in
    let rests : Rests (disk A four) (le 8 1) [] = subst (λ d. Rests d (le 8 1) []) (sym is4) (header_rests (disk A two) has) in
    let opened : Opened four A [] = made t four b4 rests in
    let keeps : Keeps (world_of four) (standing at_first (gate_after [] + 1)) = keeps_made (world_of four) b4.keeps in
    record {
      opened = opened;
      lab_of = refl;
      keeps = keeps;
      sound = sound_push (λ a b s. StandFor t a b s) three (Synced A) third (rest_sound t four A [] at_first opened refl keeps);
    }

-- THE ROOM that the core's test leaves
pub room_accepted : (rs : List Record) (r : Record) (u : LabState) → Sane u → gate_after rs + 1 + size r + 10240 ≤ 2 ^ 32 → HasRoom (rs ++ r ∷ []) u
room_accepted rs r u sane fits = omega (arith, fits, gate_push rs r, sane.few, count_by-le-length is_moving u.experiments)

-- AFTER A STOP: the images that it left are made durable, both sides are synced, and what they stand for is at work
pub restarted : (t : Texts) (trace : List Event) (a b : List ℕ) → ArePossible trace a b → IsSound t trace → IsSound t (trace ++ Restarted a b ∷ []) × Finds t (((trace ++ Restarted a b ∷ []) ++ Synced A ∷ []) ++ Synced B ∷ [])
restarted t trace a b was sound =
    let now : SoundAt (λ a b s. StandFor t a b s) trace = subst (λ l. SoundAt (λ a b s. StandFor t a b s) l) (Rattle.std.proofs.lemmas.List.take_all (length trace) trace (omega arith)) (sound (length trace) (omega arith)) in
    let first : IsSound t (trace ++ Restarted a b ∷ []) = sound_push (λ a b s. StandFor t a b s) trace (Restarted a b) sound (restart_sound (λ a b s. StandFor t a b s) trace a b was now) in
    let read_a : IsReadable (disk A (trace ++ Restarted a b ∷ [])) = subst (λ d. IsReadable d) (sym (disk_push A trace (Restarted a b))) (readable_once a) in
    let read_b : IsReadable (disk B (trace ++ Restarted a b ∷ [])) = subst (λ d. IsReadable d) (sym (disk_push B trace (Restarted a b))) (readable_once b) in
    (first, opening t (trace ++ Restarted a b ∷ []) read_a read_b first)

-- A CALL THAT FAILED adds Missed, which changes nothing
pub missed_sound : (t : Texts) (trace : List Event) (side : Side) → IsSound t trace → IsSound t (trace ++ Missed side ∷ [])
missed_sound t trace side sound =
    let now : SoundAt (λ a b s. StandFor t a b s) trace = subst (λ l. SoundAt (λ a b s. StandFor t a b s) l) (Rattle.std.proofs.lemmas.List.take_all (length trace) trace (omega arith)) (sound (length trace) (omega arith)) in
    sound_push (λ a b s. StandFor t a b s) trace (Missed side) sound (λ x y possible.
    let was : ArePossible trace x y = rw (disk_push A trace (Missed side), disk_push B trace (Missed side)) at possible in
    let at = now x y was in
    (at.0, at.1, subst (λ w. Keeps w at.0) (sym (world_push trace (Missed side))) at.2))

-- TWO SIDES stand for one lab
pub stands_once : (t : Texts) (a b : List ℕ) (x y : Standing) → AreCanonical t → StandFor t a b x → StandFor t a b y → x ≡ y
stands_once t a b x y can p q =
    let rs = records_once a b p.records q.records p.read q.read in
    let s = folds_once t at_first q.records p.state q.state can (subst (λ l. LabOf t l p.state) rs p.lab_of) q.lab_of in
    p.is ∙ (λ i. standing (s i) (journal_length a b (rs i))) ∙ sym q.is
