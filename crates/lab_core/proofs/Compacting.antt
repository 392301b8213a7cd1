-- The journal's move onto its other side, over what a plant tells.
use Rattle.std.proofs.Common.{◌≡◌, ◌⊎◌, inl, inr, fold, ◌≤◌, ℕ, ◌+◌, ◌-◌, ◌*◌, ◌^◌, true, false, ◌&&◌, List, [], ◌∷◌, ◌++◌, length, Option, Some, None, Result, Ok, Err, IfSome, refl, sym, ap, subst, ◌∙◌, arith}
use Rattle.std.specs.Prelude.{nat_lt, nat_le}
use Rattle.std.proofs.lemmas.Bool.{and_parts, lt-ltb, le-leb, ltb-true, leb-true}
use Rattle.std.proofs.lemmas.List.{append-nil, append_cancel_left, length-append}
use Rattle.std.proofs.lemmas.List.Sums.{fold-append}
use Rattle.lab_base.proofs.Tests.{some_weaker, some_all}
use Rattle.plant.specs.Disks.{Disk, disk, disk_after}
use Rattle.plant.specs.Events.{Event, Missed}
use Rattle.plant.specs.Told.{Told, with_steps}
use Rattle.plant.specs.declared.step.Side.{Side}
use Rattle.plant.specs.declared.step.Side.TheVariants.{A, B}
use Rattle.plant.proofs.Traces.{with_steps-nil}
use Rattle.journal_rec.specs.declared.record.Record.{Record}
use Rattle.journal_rec.specs.Payloads.{le, number}
use Rattle.journal_rec.specs.Packing.{blocks, ArePacked, side_length}
use Rattle.journal_model.specs.Appends.{other_side}
use Rattle.journal_model.specs.Journals.{Headed, On, head, gate_after, magic}
use Rattle.journal_model.proofs.Gates.{length_front}
use Rattle.journal_model.proofs.Traces.{disk_more}
use Rattle.journal_disk.specs.Compacting.{come_steps, lacks_closed_gate}
use Rattle.journal_disk.specs.Compactions.{Compacts, Shifts as ShiftsImages}
use Rattle.journal_disk.proofs.CompactSteps.{there_come}
use Rattle.journal_disk.specs.Epochs.{epoch_of, HasEpoch}
use Rattle.journal_disk.specs.Standing.{side_of, length_of, limit_of, IsAt}
use Rattle.journal_disk.specs.declared.fault.CompactFault.{CompactFault}
use Rattle.journal_disk.specs.declared.fault.CompactFault.TheVariants as moves
use Rattle.journal_disk.specs.declared.fault.OpenFault.{OpenFault}
use Rattle.journal_disk.specs.declared.fault.OpenFault.TheVariants as faults
use Rattle.journal_disk.specs.declared.journal.Journal.{Journal}
use Rattle.records_model.specs.Labs.{LabState, LabOf}
use Rattle.records_model.specs.Works.{IsSound, HasRoom}
use Rattle.swap_turns.specs.Pieces.{has_miss}
use Rattle.swap_turns.proofs.Images.{reads_on}
use Rattle.swap_turns.proofs.Shifting.{shift_quiet, shift_missed, all_stand, shifts_sound}
use Rattle.swap_turns.proofs.Sounds.{works_as}
use Rattle.lab_state.specs.Packing.{packed_of}
use Rattle.lab_state.specs.Texts.{the_texts}
use Rattle.lab_state.proofs.Canonical.{texts_once}
use Rattle.journal_disk.proofs.LastSteps.{compact_last}
use Rattle.swap_turns.specs.Running.{AtWork, Stands}
use Rattle.lab_core.specs.Compaction.{AfterMove, HasMoved, IsPacked, IsToMove, MoveSteps, MoveEnds, moves as has_moved, stays}
use Rattle.lab_core.specs.Controller.{Control}
use Rattle.lab_core.specs.Moments.{AllStandFor, IsLengthAt, IsLiveAt}

-- how long a side with packed records is
pub packed_side : (packed : List ℕ) (rs : List Record) → ArePacked packed rs → side_length packed ≡ gate_after rs + 1
packed_side packed rs are = omega (arith, ap length are.spelled, length-append (blocks rs) (0 ∷ []), length_front (le 8 0) rs refl, length-append (165 ∷ magic ++ le 8 0) (blocks rs))

-- A JOURNAL THAT STANDS: its live side, and its length
pub live_at : (trace : List Event) (j : Journal) (rs : List Record) → IsAt trace j rs → HasEpoch trace j → IsLiveAt trace (side_of j) (epoch_of j)
live_at trace j rs at epoch = record { live_is = (reads_on trace (side_of j) rs at.opened).live_is; bytes = epoch.epoch; headed = epoch.headed; is = sym epoch.number_is }

pub length_at : (trace : List Event) (j : Journal) (rs : List Record) → IsAt trace j rs → IsLengthAt trace (length_of j)
length_at trace j rs at =
    let on = reads_on trace (side_of j) rs at.opened in
    record { records = rs; read = on.reads; is = sym (on.size ∙ ap (λ n. n + 1) (sym at.gate)) }

-- there is one
pub live_once : (trace : List Event) (s r : Side) (m n : ℕ) → IsLiveAt trace s m → IsLiveAt trace r n → (s ≡ r) × (m ≡ n)
live_once trace s r m n x y =
    let on : On s ≡ On r = sym x.live_is ∙ y.live_is in
    let side : s ≡ r = cc on in
    let bytes : Headed x.bytes ≡ Headed y.bytes = sym x.headed ∙ ap (λ z. head (disk z trace).reads) side ∙ y.headed in
    let same : x.bytes ≡ y.bytes = cc bytes in
    (side, x.is ∙ ap number same ∙ sym y.is)

-- NOT TO MOVE
pub is_short : (size epoch : ℕ) (s : LabState) → (nat_lt 1048576 size && nat_lt epoch (2 ^ 64 - 1)) ≡ false → IsToMove size epoch s → ⊥
is_short size epoch s none due = let both : (nat_lt 1048576 size && nat_lt epoch (2 ^ 64 - 1)) ≡ true = (λ i. lt-ltb 1048576 size due.long i && lt-ltb epoch (2 ^ 64 - 1) due.next i) in absurd (cc (none, both))

pub is_needed : (size epoch : ℕ) (s : LabState) (packed : List ℕ) → IsPacked packed s → nat_le (2 * side_length packed) size ≡ false → IsToMove size epoch s → ⊥
is_needed size epoch s packed are none due = let half : nat_le (2 * side_length packed) size ≡ true = le-leb _ _ (omega (arith, due.half, packed_side packed _ are.bytes)) in absurd (cc (none, half))

-- where nothing was done
undone : (s : LabState) (j : Journal) (told : Option Told) (result : Result (Unit {0}) OpenFault) → ((t : Told) → MoveEnds t.trace [] s j result) → AfterMove s j told told result
undone s j told result ends =
    ([], with_steps-nil told, some_all told (λ t. MoveSteps t.trace [] s j result) (λ t. record { shifts = refl; aside = ap (disk (side_of j)) (append-nil t.trace); no_outer = refl; sound = λ sound. subst (λ l. IsSound the_texts l) (sym (append-nil t.trace)) sound; ends = ends t }))

pub stays_after : (s : LabState) (j : Journal) (told : Option Told) (done : Unit {0}) → (IsToMove (length_of j) (epoch_of j) s → ⊥) → AfterMove s j told told (Ok done)
stays_after s j told done not = undone s j told (Ok done) (λ t. stays not refl)

pub memory_after : (s : LabState) (j : Journal) (told : Option Told) → AfterMove {X = Unit {0}} s j told told (Err faults.Memory)
memory_after s j told = undone s j told (Err faults.Memory) (λ t. refl)

-- the answer of a controller
of_fault : (trace steps : List Event) (s : LabState) (j : Journal) (fault : OpenFault) → MoveEnds {X = Unit {0}} trace steps s j (Err fault) → MoveEnds {X = Control} trace steps s j (Err fault)
of_fault trace steps s j faults.Plant ends = ends
of_fault trace steps s j faults.Stopped ends = ends
of_fault trace steps s j faults.Memory ends = ends
of_fault trace steps s j (faults.Bad side at) ends = ends

after_as : (s : LabState) (j : Journal) (told now : Option Told) (r : Result (Unit {0}) OpenFault) (q : Result Control OpenFault) → ((trace steps : List Event) → MoveEnds trace steps s j r → MoveEnds trace steps s j q) → AfterMove s j told now r → AfterMove s j told now q
after_as s j told now r q each after = (after.0, after.1, some_weaker told _ _ (λ t m. record { shifts = m.shifts; aside = m.aside; no_outer = m.no_outer; sound = m.sound; ends = each t.trace after.0 m.ends }) after.2)

pub done_as : (s : LabState) (j : Journal) (told now : Option Told) (done : Unit {0}) (c : Control) → AfterMove s j told now (Ok done) → AfterMove s j told now (Ok c)
done_as s j told now done c after = after_as s j told now (Ok done) (Ok c) (λ trace steps ends. ends) after

pub fault_as : (s : LabState) (j : Journal) (told now : Option Told) (fault : OpenFault) → AfterMove {X = Unit {0}} s j told now (Err fault) → AfterMove {X = Control} s j told now (Err fault)
fault_as s j told now fault after = after_as s j told now (Err fault) (Err fault) (λ trace steps ends. of_fault trace steps s j fault ends) after

-- what steps a plant tells once
abbrev trace_if : Option Told → List Event
trace_if None = []
trace_if (Some t) = t.trace

one_steps : (t : Told) (now : Option Told) (xs ys : List Event) → now ≡ with_steps (Some t) xs → now ≡ with_steps (Some t) ys → ys ≡ xs
one_steps t now xs ys one other = append_cancel_left t.trace ys xs (ap trace_if (sym other ∙ one))

-- there is room for the packed records
pub packed_fits : (s : LabState) (j : Journal) (told : Option Told) (packed : List ℕ) → AtWork the_texts told j s → IsPacked packed s → 2 * side_length packed ≤ length_of j → side_length packed ≤ limit_of j
packed_fits s j told packed work are half = omega (arith, half, work.room.few)

pub is_due : (s : LabState) (size epoch : ℕ) (packed : List ℕ) → IsPacked packed s → (nat_lt 1048576 size && nat_lt epoch (2 ^ 64 - 1)) ≡ true → nat_le (2 * side_length packed) size ≡ true → IsToMove size epoch s
is_due s size epoch packed are may half =
    let both = and_parts (nat_lt 1048576 size) (nat_lt epoch (2 ^ 64 - 1)) may in
    record { long = ltb-true 1048576 size both.0; half = omega (arith, leb-true _ _ half, packed_side packed _ are.bytes); next = ltb-true epoch (2 ^ 64 - 1) both.1 }

-- THE LIVE SIDE stays as it was
nothing_more : (side live : Side) (more : List Event) (d : Disk) → (more ≡ []) ⊎ (more ≡ Missed side ∷ []) → fold (disk_after live) d more ≡ d
nothing_more side live more d (inl none) = ap (fold (disk_after live) d) none
nothing_more side A more d (inr one) = ap (fold (disk_after A) d) one
nothing_more side B more d (inr one) = ap (fold (disk_after B) d) one

stays_aside : (trace steps : List Event) (j : Journal) (packed : List ℕ) (answer : Result (Unit {0}) CompactFault) → Compacts trace steps j packed answer → disk (side_of j) (trace ++ steps) ≡ disk (side_of j) trace
stays_aside trace steps j packed answer c =
    let live = side_of j in
    let d = disk live trace in
    let come = come_steps (other_side live) (lacks_closed_gate (disk (other_side live) trace).reads) c.far in
    disk_more live trace steps
    ∙ ap (fold (disk_after live) d) c.steps_are
    ∙ fold-append (disk_after live) d come c.more
    ∙ ap (λ x. fold (disk_after live) x c.more) (there_come live d (lacks_closed_gate (disk (other_side live) trace).reads) c.far)
    ∙ nothing_more (other_side live) live c.more d (compact_last (other_side live) answer c.far c.more c.ends)

-- THE MOVE of a journal that is to move
module _ (s : LabState) (j : Journal) (told now : Option Told) (work : AtWork the_texts told j s) (packed : List ℕ) (are : IsPacked packed s) (due : IsToMove (length_of j) (epoch_of j) s) where
  abbrev ps : List Record
  ps = packed_of the_texts s

  room : HasRoom ps s
  room = omega (arith, due.half, work.room.few, work.room.limit)

  -- what a call of compact says
  abbrev pub SaysSteps : Result (Unit {0}) CompactFault → Type 0
  SaysSteps answer = (steps : List Event) × (now ≡ with_steps told steps) × IfSome told (λ t. Compacts t.trace steps j packed answer)

  abbrev pub SaysImages : Result (Unit {0}) CompactFault → Type 0
  SaysImages answer = (rs qs : List Record) → ArePacked packed qs → IfSome told (λ t. IsAt t.trace j rs → HasEpoch t.trace j → (steps : List Event) × (now ≡ with_steps told steps) × ShiftsImages t.trace steps (side_of j) rs qs answer)

  module _ (answer : Result (Unit {0}) CompactFault) (trace steps : List Event) (stands : Stands the_texts trace j s) (compacts : Compacts trace steps j packed answer) (shifts : ShiftsImages trace steps (side_of j) stands.records ps answer) where
    lab : LabOf the_texts ps s
    lab = are.stands stands.records stands.lab_of

    adds : (result : Result (Unit {0}) OpenFault) → ((IsSound the_texts trace → AllStandFor (trace ++ steps) s) → MoveEnds trace steps s j result) → MoveSteps trace steps s j result
    adds result ends =
        let quiet = shift_quiet trace steps j packed answer compacts in
        record {
          shifts = quiet.0;
          aside = stays_aside trace steps j packed answer compacts;
          no_outer = quiet.1;
          sound = λ sound. shifts_sound the_texts trace j stands.records ps s (stands.works sound) lab room steps answer shifts quiet.0;
          ends = ends (λ sound. all_stand the_texts trace j stands.records ps s (stands.works sound) lab steps answer shifts);
        }

  -- by what holds of the steps, over what the plant tells
  by_steps : (answer : Result (Unit {0}) CompactFault) (result : Result (Unit {0}) OpenFault) → SaysSteps answer → SaysImages answer
      → ((t : Told) (steps : List Event) → told ≡ Some t → now ≡ with_steps (Some t) steps → Stands the_texts t.trace j s → Compacts t.trace steps j packed answer → (IsSound the_texts t.trace → AllStandFor (t.trace ++ steps) s) → MoveEnds t.trace steps s j result)
      → AfterMove s j told now result
  by_steps answer result says images ends = by told refl says images work.stands
    where
      by : (o : Option Told) → told ≡ o → (steps : List Event) × (now ≡ with_steps o steps) × IfSome o (λ t. Compacts t.trace steps j packed answer)
          → ((rs qs : List Record) → ArePacked packed qs → IfSome o (λ t. IsAt t.trace j rs → HasEpoch t.trace j → (steps : List Event) × (now ≡ with_steps o steps) × ShiftsImages t.trace steps (side_of j) rs qs answer))
          → IfSome o (λ t. Stands the_texts t.trace j s) → AfterMove s j o now result
      by None is says images stands = ([], says.1, tt)
      by (Some t) is says images stands =
          let i = images stands.records ps are.bytes stands.at stands.epoch in
          let same : i.0 ≡ says.0 = one_steps t now says.0 i.0 says.1 i.1 in
          let shifts = subst (λ l. ShiftsImages t.trace l (side_of j) stands.records ps answer) same i.2 in
          (says.0, says.1, adds answer t.trace says.0 stands says.2 shifts result (λ stand. ends t says.0 is says.1 stands says.2 stand))

  -- IT BROKE OFF
  pub missed_after : SaysSteps (Err moves.Plant) → SaysImages (Err moves.Plant) → AfterMove {X = Unit {0}} s j told now (Err faults.Plant)
  missed_after says images = by_steps (Err moves.Plant) (Err faults.Plant) says images (λ t steps is new stands compacts stand. (shift_missed t.trace steps j packed _ compacts _ (ap has_miss compacts.ends), due, stand))

  pub halted_after : SaysSteps (Err moves.Stopped) → SaysImages (Err moves.Stopped) → AfterMove {X = Unit {0}} s j told now (Err faults.Stopped)
  halted_after says images = by_steps (Err moves.Stopped) (Err faults.Stopped) says images (λ t steps is new stands compacts stand. (due, stand))

  -- IT WAS MOVED
  module _ (k : Journal) (length_is : length_of k ≡ side_length packed) (side : side_of k ≡ other_side (side_of j)) (epoch : epoch_of k ≡ epoch_of j + 1)
      (says_now : (rs qs : List Record) → ArePacked packed qs → IfSome told (λ t. IsAt t.trace j rs → HasEpoch t.trace j → IfSome now (λ u. IsAt u.trace k qs × HasEpoch u.trace k))) where
    abbrev HasPacked : List Event → Type 0
    HasPacked trace = IsAt trace k ps × HasEpoch trace k

    -- its records after the move
    has_packed : (t : Told) → told ≡ Some t → Stands the_texts t.trace j s → IfSome now (λ u. HasPacked u.trace)
    has_packed t is stands = subst (λ (o : Option Told). IfSome o (λ x. IsAt x.trace j stands.records → HasEpoch x.trace j → IfSome now (λ u. HasPacked u.trace))) is (says_now stands.records ps are.bytes) stands.at stands.epoch

    moved_so : (trace : List Event) → HasPacked trace → HasMoved trace (side_of j) (epoch_of j) s
    moved_so trace has =
        let long = length_at trace k ps has.0 in
        let live = live_at trace k ps has.0 has.1 in
        record {
          packed = (reads_on trace (side_of k) ps has.0.opened).reads;
          length_is = subst (λ n. IsLengthAt trace n) (length_is ∙ packed_side packed ps are.bytes) long;
          live = subst (λ n. IsLiveAt trace (other_side (side_of j)) n) epoch (subst (λ x. IsLiveAt trace x (epoch_of k)) side live);
        }

    pub moved_after : (done end : Unit {0}) → SaysSteps (Ok done) → SaysImages (Ok done) → AfterMove s j told now (Ok end)
    moved_after done end says images =
        by_steps (Ok done) (Ok end) says images
        (λ t steps is now_is stands compacts stand.
        has_moved due (shift_missed t.trace steps j packed _ compacts _ (ap has_miss compacts.ends.1)) (moved_so (t.trace ++ steps) (subst (λ (o : Option Told). IfSome o (λ u. HasPacked u.trace)) now_is (has_packed t is stands))))

    -- AND IT WORKS
    stands_so : (trace : List Event) → LabOf the_texts ps s → HasPacked trace → Stands the_texts trace k s
    stands_so trace lab has = record { records = ps; at = has.0; epoch = has.1; lab_of = lab; works = λ sound. works_as the_texts trace k ps s has.0 sound texts_once lab }

    now_stands : (o : Option Told) → told ≡ o → (steps : List Event) → now ≡ with_steps o steps → IfSome o (λ t. Stands the_texts t.trace j s) → IfSome now (λ u. Stands the_texts u.trace k s)
    now_stands None is steps now_is stands = subst (λ (o : Option Told). IfSome o (λ u. Stands the_texts u.trace k s)) (sym now_is) tt
    now_stands (Some t) is steps now_is stands = some_weaker now _ _ (λ u has. stands_so u.trace (are.stands stands.records stands.lab_of) has) (has_packed t is stands)

    pub moved_works : (done : Unit {0}) → SaysSteps (Ok done) → limit_of k ≡ limit_of j → AtWork the_texts now k s
    moved_works done says limit = record {
      sane = work.sane;
      swaps = work.swaps;
      room = record { few = omega (arith, work.room.few, due.half, length_is, packed_side packed ps are.bytes, limit); limit = omega (arith, work.room.limit, limit) };
      stands = now_stands told refl says.0 says.1 work.stands;
    }
