-- The journal that an opening finds after both syncs, and the one that it makes.
use Rattle.std.proofs.Common.{◌≡◌, ◌≢◌, ℕ, ◌≤◌, ◌||◌, ◌==◌, Bool, true, false, not, nat_lt, List, [], ◌∷◌, ◌++◌, length, Option, Some, None, Result, Ok, Err, refl, sym, ap, ◌∙◌, subst, arith}
use Rattle.std.specs.Prelude.{IfSome, IfOk}
use Rattle.std.specs.Global.{Vec}
use Rattle.std.proofs.lemmas.Bool.{le-ltb, eq-eqb, ltb-true, ltb-false}
use Rattle.plant.specs.Disks.{Disk, disk, at_once, ArePossible}
use Rattle.plant.specs.Events.{Event}
use Rattle.plant.specs.Told.{Told, with_steps}
use Rattle.plant.specs.declared.step.Side.{Side}
use Rattle.plant.specs.declared.step.Side.TheVariants.{A, B}
use Rattle.journal_rec.specs.declared.record.Record.{Record}
use Rattle.journal_rec.specs.declared.record.Record.TheVariants.{Delete}
use Rattle.journal_rec.specs.declared.record.Found.{Found}
use Rattle.journal_rec.specs.Payloads.{le, IsRecord}
use Rattle.journal_model.specs.Journals.{Head, Blank, head, New, On, live, Bad, BadOf}
use Rattle.journal_model.specs.Appends.{IsOlder, Rests, Opened, Nothing}
use Rattle.journal_model.specs.Making.{IsShort, IsClosed}
use Rattle.journal_model.proofs.Traces.{disk_more}
use Rattle.journal_model.proofs.Runs.{run_images}
use Rattle.journal_model.proofs.Syncs.{opened_from}
use Rattle.journal_model.proofs.Making.{short_closed, closed_header, header_rests, heads_blank, open_not_blank}
use Rattle.journal_disk.specs.declared.heads.LiveSide.TheVariants as places
use Rattle.journal_disk.specs.declared.fault.OpenFault.{OpenFault}
use Rattle.journal_disk.specs.declared.fault.OpenFault.TheVariants as faults
use Rattle.journal_disk.specs.declared.journal.Journal.{Journal}
use Rattle.journal_disk.specs.Heads.{seen_live}
use Rattle.journal_disk.specs.Standing.{side_of, gate_of, IsAt, HasAll}
use Rattle.journal_disk.specs.Walks.{placed}
use Rattle.journal_disk.specs.Opening.{both_synced, making}
use Rattle.journal_disk.specs.Openings.{IsRead, IsOpened}
use Rattle.journal_disk.proofs.Fronts.{first_read, second_read}
use Rattle.journal_disk.proofs.Placing.{on_live, new_live, wrong_live}
use Rattle.std.proofs.lemmas.List.{append-nil}
use Rattle.plant.specs.Sides.{of_side}

-- ---- both sides as they were read
pub record AreRead (trace : List Event) (a b : List ℕ) : Type 0 where
  pub on_a : disk A trace ≡ at_once a
  pub on_b : disk B trace ≡ at_once b

abbrev pub ReadIn : Option Told → List ℕ → List ℕ → Type 0
ReadIn told a b = IfSome told (λ t. AreRead t.trace a b)

after_syncs : (trace : List Event) (side : Side) → disk side (trace ++ both_synced) ≡ at_once (disk side trace).reads
after_syncs trace A = disk_more A trace both_synced
after_syncs trace B = disk_more B trace both_synced

abbrev pub reads_in : Side → Told → List ℕ
reads_in side t = (disk side t.trace).reads

pub are_read : (told one : Option Told) (a b : List ℕ) → one ≡ with_steps told both_synced → IfSome one (λ t. a ≡ reads_in A t) → IfSome one (λ t. b ≡ reads_in B t) → ReadIn one a b
are_read None one a b is ra rb = subst (λ (o : Option Told). ReadIn o a b) (sym is) tt
are_read (Some t) one a b is ra rb =
    let trace = t.trace ++ both_synced in
    let ea : a ≡ (disk A trace).reads = subst (λ (o : Option Told). IfSome o (λ t. a ≡ reads_in A t)) is ra in
    let eb : b ≡ (disk B trace).reads = subst (λ (o : Option Told). IfSome o (λ t. b ≡ reads_in B t)) is rb in
    let da = after_syncs t.trace A in
    let db = after_syncs t.trace B in
    subst (λ (o : Option Told). ReadIn o a b) (sym is) (record {
      on_a = da ∙ ap at_once (sym (ap (λ (d : Disk). d.reads) da) ∙ sym ea);
      on_b = db ∙ ap at_once (sym (ap (λ (d : Disk). d.reads) db) ∙ sym eb);
    })

-- ---- a live side
some_record : Record
some_record = Delete (65 ∷ [])

is_some : IsRecord some_record
unfolding some_record
is_some = record { fields = refl; size = omega arith }

has_all : (trace : List Event) (j : Journal) (rs : List Record) → IsAt trace j rs → HasAll trace rs
has_all trace j rs at a b possible =
    let o = at.opened in
    (run_images trace (side_of j) o.epoch rs some_record Nothing o.known o.rests is_some a b (subst (λ l. ArePossible l a b) (sym (append-nil trace)) possible)).reads

at_opened : (trace : List Event) (a b : List ℕ) (side : Side) (limit : ℕ) (j : Journal) (found : List Found) → AreRead trace a b → live (head a) (head b) ≡ On side → (r : IsRead side limit (of_side side a b) j found) → IsAt trace j r.rs
at_opened trace a b side limit j found read on r = record {
  opened = subst (λ s. Opened trace s r.rs) (sym r.side_is) (opened_from trace a b side r.rs read.on_a read.on_b on r.reads);
  gate = r.gate_is;
}

pub opened_ok : (told : Option Told) (a b : List ℕ) (side : Side) (limit : ℕ) (result : Result (Journal × Vec Found) OpenFault) → ReadIn told a b → seen_live (live (head a) (head b)) ≡ places.On side
    → IsOpened side limit (of_side side a b) result → IfOk result (λ opened. (rs : List Record) × (opened.1.items ≡ placed 17 rs) × IfSome told (λ t. IsAt t.trace opened.0 rs × HasAll t.trace rs))
opened_ok told a b side limit (Err fault) read on h = tt
opened_ok None a b side limit (Ok opened) read on h = (h.rs, h.found_so, tt)
opened_ok (Some t) a b side limit (Ok opened) read on h =
    let at = at_opened t.trace a b side limit opened.0 opened.1.items read (on_live (live (head a) (head b)) side on) h in
    (h.rs, h.found_so, (at, has_all t.trace opened.0 h.rs at))

abbrev is_bad : Side → ℕ → Result (Journal × Vec Found) OpenFault
is_bad side at = Err (faults.Bad side at)

bad_parts : (s side : Side) (m n : ℕ) → is_bad s m ≡ is_bad side n → (s ≡ side) × (m ≡ n)
bad_parts s side m n e = (first e, second e)
  where
    first : is_bad s m ≡ is_bad side n → s ≡ side
    first e = cc

    second : is_bad s m ≡ is_bad side n → m ≡ n
    second e = cc

reads_bad : (trace : List Event) (a b : List ℕ) (side : Side) (at : ℕ) → AreRead trace a b → Bad a b side at → Bad (disk A trace).reads (disk B trace).reads side at
reads_bad trace a b side at read bad = subst (λ (x : List ℕ). Bad x (disk B trace).reads side at) (sym (ap (λ (d : Disk). d.reads) read.on_a)) (subst (λ (x : List ℕ). Bad a x side at) (sym (ap (λ (d : Disk). d.reads) read.on_b)) bad)

in_reads : (told : Option Told) (a b : List ℕ) (side : Side) (at : ℕ) → ReadIn told a b → Bad a b side at → IfSome told (λ t. Bad (disk A t.trace).reads (disk B t.trace).reads side at)
in_reads None a b side at read bad = tt
in_reads (Some t) a b side at read bad = reads_bad t.trace a b side at read bad

pub opened_bad : (told : Option Told) (a b : List ℕ) (s : Side) (limit : ℕ) (result : Result (Journal × Vec Found) OpenFault) (side : Side) (at : ℕ) → ReadIn told a b → seen_live (live (head a) (head b)) ≡ places.On s
    → IsOpened s limit (of_side s a b) result → result ≡ Err (faults.Bad side at) → IfSome told (λ t. Bad (disk A t.trace).reads (disk B t.trace).reads side at)
opened_bad told a b s limit result side at read on h is =
    let found : IsOpened s limit (of_side s a b) (is_bad side at) = subst (λ (r : Result (Journal × Vec Found) OpenFault). IsOpened s limit (of_side s a b) r) is h in
    in_reads told a b side at read (subst (λ l. BadOf l a b side at) (sym (on_live (live (head a) (head b)) s on)) (sym found.0, found.1))

pub wrong_bad : (told : Option Told) (a b : List ℕ) (s side : Side) (at : ℕ) → ReadIn told a b → seen_live (live (head a) (head b)) ≡ places.Wrong s → is_bad s 0 ≡ is_bad side at
    → IfSome told (λ t. Bad (disk A t.trace).reads (disk B t.trace).reads side at)
wrong_bad told a b s side at read wrong is =
    let parts = bad_parts s side 0 at is in
    let l = wrong_live (live (head a) (head b)) s wrong in
    in_reads told a b side at read (subst (λ l. BadOf l a b side at) (sym l) (parts.0, sym parts.1))

-- ---- a new journal

pub blank_closed : (bytes : List ℕ) → head bytes ≡ Blank → 18 ≤ length bytes → (gate : ℕ) × (rest : List ℕ) × (gate ≢ 165) × (bytes ≡ gate ∷ rest)
blank_closed [] h long = absurd (omega (arith, long))
blank_closed (x ∷ y) h long = (x, y, (λ is_open. open_not_blank x y (ap (λ t. t || not (x == 165)) (le-ltb (length (x ∷ y)) 18 long) ∙ ap not (eq-eqb x 165 is_open)) h), refl)

-- the state of side A after what makes a journal
pub rests_made : (trace : List Event) (bytes : List ℕ) (is_short : Bool) → disk A trace ≡ at_once bytes → head bytes ≡ Blank → is_short ≡ nat_lt (length bytes) 18 → Rests (disk A (trace ++ making is_short)) (le 8 1) []
rests_made trace bytes true is blank short =
    let s : IsShort (disk A trace) = record { bytes = bytes; is = is; short = ltb-true (length bytes) 18 (sym short) } in
    subst (λ (d : Disk). Rests d (le 8 1) []) (sym (disk_more A trace (making true))) (header_rests _ (closed_header _ (short_closed (disk A trace) s)))
rests_made trace bytes false is blank short =
    let c = blank_closed bytes blank (ltb-false (length bytes) 18 (sym short)) in
    let s : IsClosed (disk A trace) = record { gate = c.0; behind = c.1; shut = c.2; is = is ∙ ap at_once c.3 } in
    subst (λ (d : Disk). Rests d (le 8 1) []) (sym (disk_more A trace (making false))) (header_rests _ (closed_header (disk A trace) s))

other_made : (trace : List Event) (is_short : Bool) → disk B (trace ++ making is_short) ≡ disk B trace
other_made trace true = disk_more B trace (making true)
other_made trace false = disk_more B trace (making false)

at_made : (trace : List Event) (a b : List ℕ) (is_short : Bool) (j : Journal) → AreRead trace a b → live (head a) (head b) ≡ New → is_short ≡ nat_lt (length a) 18 → side_of j ≡ A → gate_of j ≡ 17 → IsAt (trace ++ making is_short) j []
at_made trace a b is_short j read new short side gate =
    let blank = heads_blank (head a) (head b) new in
    let opened : Opened (trace ++ making is_short) A [] = record {
      epoch = le 8 1;
      known = record {
        eight = refl;
        written = λ r h. absurd h;
        other = b;
        there = other_made trace is_short ∙ read.on_b;
        older = subst (λ (h : Head). IsOlder h (le 8 1)) (sym blank.1) tt;
      };
      rests = rests_made trace a is_short read.on_a blank.0 short;
    } in
    record { opened = subst (λ s. Opened (trace ++ making is_short) s []) (sym side) opened; gate = gate }

pub made_ok : (told now : Option Told) (a b : List ℕ) (is_short : Bool) (j : Journal) → ReadIn told a b → seen_live (live (head a) (head b)) ≡ places.New → is_short ≡ nat_lt (length a) 18
    → now ≡ with_steps told (making is_short) → side_of j ≡ A → gate_of j ≡ 17 → IfSome now (λ t. IsAt t.trace j [] × HasAll t.trace [])
made_ok None now a b is_short j read new short is side gate = subst (λ (o : Option Told). IfSome o (λ t. IsAt t.trace j [] × HasAll t.trace [])) (sym is) tt
made_ok (Some t) now a b is_short j read new short is side gate =
    let at = at_made t.trace a b is_short j read (new_live (live (head a) (head b)) new) short side gate in
    subst (λ (o : Option Told). IfSome o (λ t. IsAt t.trace j [] × HasAll t.trace [])) (sym is) (at, has_all (t.trace ++ making is_short) j [] at)

-- both reads, after both syncs
pub both_read_in : (told one two : Option Told) (a b : List ℕ) → one ≡ with_steps told both_synced → two ≡ one → IfSome one (λ t. (a ≡ reads_in A t) × (b ≡ reads_in B t)) → ReadIn two a b
both_read_in told one two a b first second reads =
    subst (λ (o : Option Told). ReadIn o a b) (sym second) (are_read told one a b first (first_read one a b reads) (second_read one a b reads))
