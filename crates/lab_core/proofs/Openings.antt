-- The steps of reading the journal, and the state after them, by the journal's opening and by its records.
use Rattle.std.proofs.Common.{◌≡◌, ◌⊎◌, inl, inr, true, false, ◌∷◌, ℕ, ◌+◌, ◌*◌, ◌<◌, ◌≤◌, ◌^◌, Bool, List, [], ◌++◌, count_by, Option, Some, None, Result, Ok, Err, IfSome, IfOk, refl, sym, ap, subst, ◌∙◌, append_assoc, arith}
use Rattle.std.specs.Prelude.{length, nat_lt}
use Rattle.std.proofs.lemmas.List.{append-nil}
use Rattle.std.proofs.lemmas.List.Sums.{fold-append}
use Rattle.std.specs.Global.{Vec}
use Rattle.plant.specs.Disks.{Disk, disk, disk_after, at_once, ArePossible}
use Rattle.plant.specs.Events.{Event, Missed}
use Rattle.plant.specs.Told.{Told, with_steps}
use Rattle.plant.specs.declared.step.Side.{Side}
use Rattle.plant.specs.declared.step.Side.TheVariants.{A, B}
use Rattle.journal_rec.specs.declared.record.Record.{Record}
use Rattle.journal_rec.specs.declared.record.Found.{Found}
use Rattle.lab_model.specs.Sound.{is_moving}
use Rattle.journal_model.specs.Journals.{Bad, Blank, Headed, Records, RecordsOf, Live, New, On, Wrong, live, head, gate_after}
use Rattle.records_model.specs.Labs.{LabState, LabOf, at_first}
use Rattle.journal_disk.specs.Before.{IsOpening, are_synced}
use Rattle.journal_disk.specs.Opening.{AtStart, BothSynced, Far, Making, MayMake, OneSynced, Opens, both_synced, made_steps, making, new_journal, far_steps, opening}
use Rattle.journal_disk.specs.Epochs.{HasEpoch}
use Rattle.journal_disk.specs.Standing.{side_of, gate_of, length_of, limit_of, Holds, IsAt, HasAll}
use Rattle.journal_disk.specs.Walks.{placed}
use Rattle.journal_disk.specs.declared.journal.Journal.{Journal}
use Rattle.journal_disk.specs.declared.fault.OpenFault.{OpenFault}
use Rattle.journal_disk.specs.declared.fault.OpenFault.TheVariants as faults
use Rattle.swap_turns.specs.Pieces.{has_miss}
use Rattle.swap_turns.proofs.Alike.{opened_alike}
use Rattle.swap_turns.proofs.Images.{on_image, reads_on}
use Rattle.swap_turns.proofs.Quiet.{opening_quiet, opening_missed, shows}
use Rattle.swap_turns.proofs.Sounds.{steps_sound, works_as}
use Rattle.lab_state.specs.Texts.{the_texts}
use Rattle.lab_state.specs.Replays.{records_of}
use Rattle.lab_state.proofs.Canonical.{texts_once}
use Rattle.records_model.proofs.LabLaws.{lab_sane}
use Rattle.journal_model.proofs.Making.{heads_blank}
use Rattle.journal_model.proofs.Traces.{disk_more}
use Rattle.journal_rec.specs.Payloads.{le}
use Rattle.journal_disk.proofs.CompactImages.{head_rests}
use Rattle.journal_disk.proofs.Found.{rests_made}
use Rattle.journal_disk.proofs.LastSteps.{opening_last}
use Rattle.journal_disk.proofs.Made.{made_heads}
use Rattle.journal_disk.proofs.Prefixes.{missed_images}
use Rattle.swap_turns.specs.Running.{Stands}
use Rattle.swap_turns.proofs.MovesAreSwaps.{lab_swaps}
use Rattle.lab_core.specs.Controller.{Control, Works}
use Rattle.lab_core.specs.Moments.{AllStandFor, IsBlankOrFirst, IsFoundAt, IsLabAt, IsLiveAt, IsNoJournal, bad, cannot_follow, no_room}
use Rattle.lab_core.specs.Opening.{IsJournal, IsOfJournal, MakesFirst, ReadSteps, HasFoundNone, ReadEnds, ReadTold, has_change, is_change}
use Rattle.lab_core.proofs.Opened.{records_of_placed, are_held}

-- what the journal's opening added
abbrev pub Moments : Option Told → Option Told → Result (Journal × Vec Found) OpenFault → Type 0
Moments old new result = (steps : List Event) × (new ≡ with_steps old steps) × IfSome old (λ t. IsOpening t.trace steps result)

-- what the sides read as is possible
abbrev pub ReadsPossible : Option Told → Type 0
ReadsPossible told = IfSome told (λ t. ArePossible t.trace (disk A t.trace).reads (disk B t.trace).reads)

-- THE JOURNAL THAT WAS OPENED, with its records, and what they made of it
pub record Made (new : Option Told) (limit : ℕ) (j : Journal) (result : Result Control OpenFault) : Type 0 where
  pub records : List Record
  pub at : IfSome new (λ t. IsAt t.trace j records)
  pub made : IsOfJournal limit j records result

-- both clauses of the journal's opening speak of the same records
pub made_of : (new : Option Told) (limit : ℕ) (j : Journal) (items found : List Found) (result : Result Control OpenFault) → found ≡ items
    → ((rs : List Record) × (items ≡ placed 17 rs) × IfSome new (λ t. IsAt t.trace j rs × HasAll t.trace rs))
    → ((rs : List Record) × Holds rs j items)
    → ((rs : List Record) → Holds rs j found → IsOfJournal limit j rs result)
    → Made new limit j result
made_of new limit j items found result is ok holds of =
    let same : holds.0 ≡ ok.0 = sym (are_held holds.0 j items holds.1) ∙ ap records_of ok.1 ∙ records_of_placed 17 ok.0 in
    let held = subst (λ (l : List Record). Holds l j items) same holds.1 in
    record { records = ok.0; at = at_of new ok.2; made = of ok.0 (subst (λ (l : List Found). Holds ok.0 j l) (sym is) held) }
  where
    at_of : (told : Option Told) → IfSome told (λ t. IsAt t.trace j ok.0 × HasAll t.trace ok.0) → IfSome told (λ t. IsAt t.trace j ok.0)
    at_of None both = tt
    at_of (Some t) both = both.0

last_changes : (more : List Event) → (more ≡ []) ⊎ ((side : Side) × (more ≡ Missed side ∷ [])) → has_change more ≡ false
last_changes more (inl none) = ap has_change none
last_changes more (inr one) = ap has_change one.1

-- IT MAKES A NEW JOURNAL only where both sides are blank
first_of : (a b : List ℕ) → head b ≡ Blank → (head a ≡ Blank) ⊎ (head a ≡ Headed (le 8 1)) → IsBlankOrFirst a b
first_of a b none (inl blank) = inl (λ i. live (blank i) (none i))
first_of a b none (inr first) = inr (le 8 1, (λ i. live (first i) (none i)), first, refl)

far_makes : (trace : List Event) (far : Far) → MayMake (disk A trace).reads (disk B trace).reads far → (has_change (far_steps far) ≡ false) ⊎ MakesFirst trace (far_steps far)
far_makes trace AtStart blank = inl refl
far_makes trace OneSynced blank = inl refl
far_makes trace BothSynced blank = inl refl
far_makes trace (Making is_short made) may =
    let blank = heads_blank (head (disk A trace).reads) (head (disk B trace).reads) may.0 in
    inr (record {
      blank = may.0;
      first = λ a b possible.
          let now : ArePossible ((trace ++ both_synced) ++ made_steps is_short made) a b = subst (λ l. ArePossible l a b) (sym (append_assoc trace both_synced (made_steps is_short made))) possible in
          let heads = made_heads (trace ++ both_synced) (disk A trace).reads (disk B trace).reads is_short made (disk_more A trace both_synced) (disk_more B trace both_synced) blank.0 blank.1 may.1 may.2 a b now in
          first_of a b heads.0 heads.1;
    })

opening_changes : (trace steps : List Event) (result : Result (Journal × Vec Found) OpenFault) → Opens trace steps result → has_change steps ≡ true → MakesFirst trace steps
opening_changes trace steps result o changed = by (far_makes trace o.far o.blank)
  where
    last : (o.more ≡ []) ⊎ ((side : Side) × (o.more ≡ Missed side ∷ []))
    last = opening_last result _ _ o.far o.more o.ends

    back : (more : List Event) → (more ≡ []) ⊎ ((side : Side) × (more ≡ Missed side ∷ [])) → (a b : List ℕ) → ArePossible (trace ++ (far_steps o.far ++ more)) a b → ArePossible (trace ++ far_steps o.far) a b
    back more (inl none) a b h = subst (λ l. ArePossible (trace ++ l) a b) (ap (λ l. far_steps o.far ++ l) none ∙ append-nil (far_steps o.far)) h
    back more (inr one) a b h =
        missed_images one.0 (trace ++ far_steps o.far) a b (subst (λ l. ArePossible l a b) (sym (append_assoc trace (far_steps o.far) (Missed one.0 ∷ []))) (subst (λ l. ArePossible (trace ++ (far_steps o.far ++ l)) a b) one.1 h))

    by : (has_change (far_steps o.far) ≡ false) ⊎ MakesFirst trace (far_steps o.far) → MakesFirst trace steps
    by (inl quiet) = absurd (cc (changed, shows is_change steps (far_steps o.far) o.more false false o.steps_are quiet (last_changes o.more last)))
    by (inr makes) = record { blank = makes.blank; first = λ a b possible. makes.first a b (back o.more last a b (subst (λ l. ArePossible (trace ++ l) a b) o.steps_are possible)) }

-- sides that are blank are a journal without records
pub blank_journal : (a b : List ℕ) (limit : ℕ) → 18 ≤ limit → live (head a) (head b) ≡ New → IsJournal a b limit
blank_journal a b limit least new = record { records = []; lab = at_first; read = subst (λ (l : Live). RecordsOf l a b []) (sym new) refl; lab_of = refl; room = omega (arith, least) }

-- WHAT READING ADDED, whatever came of it
steps_of : (trace steps : List Event) (result : Result (Journal × Vec Found) OpenFault) → IsOpening trace steps result
    → ArePossible (trace ++ steps) (disk A (trace ++ steps)).reads (disk B (trace ++ steps)).reads → ReadSteps trace steps
steps_of trace steps result is possible =
    let quiet = opening_quiet trace steps result is.opens in
    record {
      no_command = quiet.0;
      no_outer = quiet.1;
      changes = opening_changes trace steps result is.opens;
      before = is.before;
      settled = is.settled;
      alike = opened_alike trace steps result is possible;
      sound = λ sound. steps_sound the_texts trace steps quiet.0 is.before sound;
    }

-- SYNCS leave what the sides read as
synced_reads : (trace steps : List Event) → steps ≡ both_synced → (side : Side) → (disk side (trace ++ steps)).reads ≡ (disk side trace).reads
synced_reads trace steps is A = ap (λ l. (disk A (trace ++ l)).reads) is ∙ ap (λ (d : Disk). d.reads) (fold-append (disk_after A) (at_once []) trace both_synced)
synced_reads trace steps is B = ap (λ l. (disk B (trace ++ l)).reads) is ∙ ap (λ (d : Disk). d.reads) (fold-append (disk_after B) (at_once []) trace both_synced)

found_none : (trace steps : List Event) (limit : ℕ) (side : Side) (at : ℕ) → steps ≡ both_synced → IsNoJournal (disk A (trace ++ steps)).reads (disk B (trace ++ steps)).reads limit side at
    → HasFoundNone trace steps limit side at
found_none trace steps limit side at is missing =
    let same = synced_reads trace steps is in
    record {
      no_journal = subst (λ a. IsNoJournal a (disk B trace).reads limit side at) (same A) (subst (λ b. IsNoJournal (disk A (trace ++ steps)).reads b limit side at) (same B) missing);
      synced = is;
      as_before = same;
    }

-- A JOURNAL THAT WAS NOT OPENED
abbrev pub IsBadAs : OpenFault → List Event → Type 0
IsBadAs fault trace = (side : Side) (at : ℕ) → fault ≡ faults.Bad side at → Bad (disk A trace).reads (disk B trace).reads side at

failed_ends : (trace steps : List Event) (limit : ℕ) (fault : OpenFault) → IsOpening trace steps (Err fault) → IsBadAs fault (trace ++ steps) → ReadEnds trace steps limit (Err fault)
failed_ends trace steps limit faults.Plant is reads = opening_missed trace steps _ is.opens _ (ap has_miss is.opens.ends.1)
failed_ends trace steps limit faults.Stopped is reads = tt
failed_ends trace steps limit faults.Memory is reads = tt
failed_ends trace steps limit (faults.Bad side at) is reads = found_none trace steps limit side at (is.opens.steps_are ∙ (λ i. far_steps (is.opens.ends.0 i) ++ is.opens.ends.1 i)) (bad (reads side at refl))

pub failed_opening : (limit : ℕ) (old new : Option Told) (fault : OpenFault) (result : Result Control OpenFault) → result ≡ Err fault → Moments old new (Err fault) → ReadsPossible new
    → ((side : Side) (at : ℕ) → fault ≡ faults.Bad side at → IfSome new (λ t. Bad (disk A t.trace).reads (disk B t.trace).reads side at)) → ReadTold old new limit result
failed_opening limit old new fault result is moments possible reads =
    subst (λ (r : Result Control OpenFault). ReadTold old new limit r) (sym is)
    (moments.0, moments.1, by old moments.0 (subst ReadsPossible moments.1 possible) (λ side at e. subst (λ (o : Option Told). IfSome o (λ t. Bad (disk A t.trace).reads (disk B t.trace).reads side at)) moments.1 (reads side at e)) moments.2)
  where
    by : (t : Option Told) (steps : List Event) → ReadsPossible (with_steps t steps) → ((side : Side) (at : ℕ) → fault ≡ faults.Bad side at → IfSome (with_steps t steps) (λ u. Bad (disk A u.trace).reads (disk B u.trace).reads side at))
        → IfSome t (λ u. IsOpening u.trace steps (Err fault)) → IfSome t (λ u. ReadSteps u.trace steps × ReadEnds u.trace steps limit (Err fault))
    by None steps possible reads is = tt
    by (Some t) steps possible reads is = (steps_of t.trace steps (Err fault) is possible, failed_ends t.trace steps limit fault is reads)

-- A JOURNAL THAT WAS OPENED
pub lab_at : (trace : List Event) (j : Journal) (rs : List Record) (s : LabState) → IsAt trace j rs → LabOf the_texts rs s → IsLabAt trace s
lab_at trace j rs s at lab = record { records = rs; read = (reads_on trace (side_of j) rs at.opened).reads; lab_of = lab }

-- and so is each possible image
pub all_at : (trace : List Event) (j : Journal) (rs : List Record) (s : LabState) → IsAt trace j rs → LabOf the_texts rs s → AllStandFor trace s
all_at trace j rs s at lab a b possible = record { records = rs; read = (on_image trace (side_of j) rs at.opened a b possible).reads; lab_of = lab }

-- where it is none, it is not a new one
not_new : (a b : List ℕ) (limit : ℕ) (j : Journal) (rs : List Record) (side : Side) (place : ℕ) → Records a b rs → gate_of j ≡ gate_after rs → 18 ≤ limit → IsOfJournal limit j rs (Err (faults.Bad side place))
    → live (head a) (head b) ≡ New → ⊥
not_new a b limit j rs side place read gate least of new = empty rs (subst (λ l. RecordsOf l a b rs) new read) gate of
  where
    empty : (l : List Record) → l ≡ [] → gate_of j ≡ gate_after l → IsOfJournal limit j l (Err (faults.Bad side place)) → ⊥
    empty [] none gate (sided, inl (n, stops, there)) = stops
    empty [] none gate (sided, inr (s, lab, full, there)) = omega (arith, gate, subst (λ (u : LabState). limit < length_of j + 39 * count_by is_moving u.experiments) (sym lab) full, least)
    empty (r ∷ l) none gate of = absurd (cc none)

only_synced : (l : Live) (is_short : Bool) → (l ≡ New → ⊥) → both_synced ++ new_journal l is_short ≡ both_synced
only_synced New is_short not = absurd (not refl)
only_synced (On side) is_short not = refl
only_synced (Wrong side) is_short not = refl

no_journal : (trace : List Event) (limit : ℕ) (j : Journal) (rs : List Record) (side : Side) (place : ℕ) → IsAt trace j rs → IsOfJournal limit j rs (Err (faults.Bad side place))
    → IsNoJournal (disk A trace).reads (disk B trace).reads limit side place
no_journal trace limit j rs side place at (sided, inl (n, stops, there)) =
    let on = reads_on trace (side_of j) rs at.opened in
    cannot_follow rs n on.reads (on.live_is ∙ ap On (sym sided)) stops there
no_journal trace limit j rs side place at (sided, inr (s, lab, full, there)) =
    let on = reads_on trace (side_of j) rs at.opened in
    no_room rs s on.reads (on.live_is ∙ ap On (sym sided)) lab (omega (arith, at.gate, full)) (there ∙ at.gate)

-- A NEW JOURNAL: side A is live after it, with epoch 1
other_made : (trace : List Event) (is_short : Bool) → disk B (trace ++ making is_short) ≡ disk B trace
other_made trace true = disk_more B trace (making true)
other_made trace false = disk_more B trace (making false)

made_live : (trace steps : List Event) → steps ≡ opening (disk A trace).reads (disk B trace).reads ++ [] → live (head (disk A trace).reads) (head (disk B trace).reads) ≡ New → IsLiveAt (trace ++ steps) A 1
made_live trace steps is new =
    let a = (disk A trace).reads in
    let short = nat_lt (length a) 18 in
    let blank = heads_blank (head a) (head (disk B trace).reads) new in
    let all : steps ≡ both_synced ++ making short = is ∙ ap (λ l. (both_synced ++ new_journal l short) ++ []) new ∙ append-nil (both_synced ++ making short) in
    let joined : trace ++ steps ≡ (trace ++ both_synced) ++ making short = ap (λ l. trace ++ l) all ∙ sym (append_assoc trace both_synced (making short)) in
    let here = ap (λ l. head (disk A l).reads) joined ∙ head_rests _ (le 8 1) [] refl (rests_made (trace ++ both_synced) a short (disk_more A trace both_synced) blank.0 refl) in
    let there : head (disk B (trace ++ steps)).reads ≡ Blank = ap (λ l. head (disk B l).reads) joined ∙ ap (λ (d : Disk). head d.reads) (other_made (trace ++ both_synced) short ∙ disk_more B trace both_synced) ∙ blank.1 in
    record { live_is = λ i. live (here i) (there i); bytes = le 8 1; headed = here; is = refl }

-- a side that is live stays so where both are only synced
on_not_new : (l : Live) (side : Side) → l ≡ On side → l ≡ New → ⊥
on_not_new l side on new = let no : On side ≡ New = sym on ∙ new in cc no

still_live : (trace steps : List Event) (side : Side) (epoch : ℕ) → steps ≡ opening (disk A trace).reads (disk B trace).reads ++ [] → IsLiveAt trace side epoch → IsLiveAt (trace ++ steps) side epoch
still_live trace steps side epoch is was =
    let l = live (head (disk A trace).reads) (head (disk B trace).reads) in
    let same = synced_reads trace steps (is ∙ ap (λ x. x ++ []) (only_synced l (nat_lt (length (disk A trace).reads) 18) (on_not_new l side was.live_is))) in
    record {
      live_is = (λ i. live (head (same A i)) (head (same B i))) ∙ was.live_is;
      bytes = was.bytes;
      headed = ap head (same side) ∙ was.headed;
      is = was.is;
    }

-- so the journal is where the opening finds it
found_live : (trace steps : List Event) (side : Side) (epoch : ℕ) → steps ≡ opening (disk A trace).reads (disk B trace).reads ++ [] → IsFoundAt trace side epoch → IsLiveAt (trace ++ steps) side epoch
found_live trace steps side epoch is (inl was) = still_live trace steps side epoch is was
found_live trace steps side epoch is (inr new) = subst (λ s. IsLiveAt (trace ++ steps) s epoch) (sym new.1) (subst (λ n. IsLiveAt (trace ++ steps) A n) (sym new.2) (made_live trace steps is new.0))

module _ (trace steps : List Event) (limit : ℕ) (least : 18 ≤ limit) (opened : Journal × Vec Found) (rs : List Record) (is : IsOpening trace steps (Ok opened)) (at : IsAt (trace ++ steps) opened.0 rs) (o : ReadSteps trace steps) where
  read_before : Records (disk A trace).reads (disk B trace).reads rs
  read_before = (o.alike.records rs).0 (reads_on (trace ++ steps) (side_of opened.0) rs at.opened).reads

  made_ends : (result : Result Control OpenFault) → IsOfJournal limit opened.0 rs result → ReadEnds trace steps limit result
  made_ends (Ok c) made = record {
    no_miss = opening_missed trace steps (Ok opened) is.opens _ (ap has_miss is.opens.ends.1);
    synced = ap are_synced (is.opens.steps_are ∙ (λ i. is.opens.ends.0 i ++ is.opens.ends.1 i));
    journal = record { records = rs; lab = c.lab; read = read_before; lab_of = made.1; room = omega (arith, at.gate, made.2) };
    lab = lab_at (trace ++ steps) opened.0 rs c.lab at made.1;
    kept = λ side epoch was. found_live trace steps side epoch (is.opens.steps_are ∙ (λ i. is.opens.ends.0 i ++ is.opens.ends.1 i)) was;
  }
  made_ends (Err faults.Plant) made = absurd made
  made_ends (Err faults.Stopped) made = tt
  made_ends (Err faults.Memory) made = tt
  made_ends (Err (faults.Bad side place)) made =
      found_none trace steps limit side place
      (is.opens.steps_are ∙ (λ i. is.opens.ends.0 i ++ is.opens.ends.1 i) ∙ ap (λ l. l ++ []) (only_synced (live (head (disk A trace).reads) (head (disk B trace).reads)) (nat_lt (length (disk A trace).reads) 18) (not_new (disk A trace).reads (disk B trace).reads limit opened.0 rs side place read_before at.gate least made)))
      (no_journal (trace ++ steps) limit opened.0 rs side place at made)

pub made_opening : (old new : Option Told) (limit : ℕ) → 18 ≤ limit → (opened : Journal × Vec Found) (result : Result Control OpenFault) → Made new limit opened.0 result → Moments old new (Ok opened) → ReadsPossible new → ReadTold old new limit result
made_opening old new limit least opened result made moments possible =
    (moments.0, moments.1, by old moments.0 (subst ReadsPossible moments.1 possible) (subst (λ (n : Option Told). IfSome n (λ u. IsAt u.trace opened.0 made.records)) moments.1 made.at) moments.2)
  where
    by : (t : Option Told) (steps : List Event) → ReadsPossible (with_steps t steps) → IfSome (with_steps t steps) (λ u. IsAt u.trace opened.0 made.records)
        → IfSome t (λ u. IsOpening u.trace steps (Ok opened)) → IfSome t (λ u. ReadSteps u.trace steps × ReadEnds u.trace steps limit result)
    by None steps reads at is = tt
    by (Some t) steps reads at is =
        let o = steps_of t.trace steps (Ok opened) is reads in
        (o, made_ends t.trace steps limit least opened made.records is at o result made.made)

-- THE STATES THAT ARE NO JOURNAL, as the sides read after it
pub bad_after : (limit : ℕ) (old new : Option Told) (result : Result Control OpenFault) (side : Side) (place : ℕ) → ReadTold old new limit result → result ≡ Err (faults.Bad side place)
    → IfSome new (λ t. IsNoJournal (disk A t.trace).reads (disk B t.trace).reads limit side place)
bad_after limit old new result side place opening is =
    subst (λ (o : Option Told). IfSome o (λ t. IsNoJournal (disk A t.trace).reads (disk B t.trace).reads limit side place)) (sym opening.1) (by old opening.2)
  where
    by : (t : Option Told) → IfSome t (λ u. ReadSteps u.trace opening.0 × ReadEnds u.trace opening.0 limit result) → IfSome (with_steps t opening.0) (λ u. IsNoJournal (disk A u.trace).reads (disk B u.trace).reads limit side place)
    by None ends = tt
    by (Some t) ends =
        let found = subst (λ (r : Result Control OpenFault). ReadEnds t.trace opening.0 limit r) is ends.1 in
        subst (λ a. IsNoJournal a (disk B (t.trace ++ opening.0)).reads limit side place) (sym (found.as_before A)) (subst (λ b. IsNoJournal (disk A t.trace).reads b limit side place) (sym (found.as_before B)) found.no_journal)

-- THE CONTROLLER WORKS
pub made_works : (new : Option Told) (limit : ℕ) (j : Journal) (result : Result Control OpenFault) → Made new limit j result → IfSome new (λ t. HasEpoch t.trace j) → limit_of j ≡ limit → limit ≤ 2 ^ 32 → IfOk result (λ c. Works new c)
made_works new limit j (Err fault) made epoch limit_is most = tt
made_works new limit j (Ok c) made epoch limit_is most = subst (λ (k : Journal). Works new (record c { journal = k })) (sym made.made.0) (record {
  sane = lab_sane the_texts made.records c.lab made.made.1;
  swaps = lab_swaps the_texts made.records c.lab made.made.1;
  room = record { few = omega (arith, made.made.2, limit_is); limit = omega (arith, limit_is, most) };
  stands = by new made.at epoch;
})
  where
    by : (o : Option Told) → IfSome o (λ t. IsAt t.trace j made.records) → IfSome o (λ t. HasEpoch t.trace j) → IfSome o (λ t. Stands the_texts t.trace j c.lab)
    by None at epoch = tt
    by (Some t) at epoch = record { records = made.records; at = at; epoch = epoch; lab_of = made.made.1; works = λ sound. works_as the_texts t.trace j made.records c.lab at sound texts_once made.made.1 }
