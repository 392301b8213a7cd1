-- The steps of an opening, and each image at each moment of it.
use Rattle.std.proofs.Common.{◌≡◌, ◌⊎◌, inl, inr, ℕ, Bool, true, false, nat_lt, List, [], ◌∷◌, ◌++◌, length, Option, Some, None, Result, Ok, Err, refl, sym, ap, ◌∙◌, subst, append_assoc}
use Rattle.std.specs.Prelude.{IfSome, OnOk}
use Rattle.std.specs.Global.{Vec}
use Rattle.std.proofs.lemmas.List.{append-nil}
use Rattle.plant.specs.Disks.{Disk, disk, synced, IsImage, ArePossible}
use Rattle.plant.specs.Events.{Event, Wrote, Synced, Missed}
use Rattle.plant.specs.Told.{Told, with_steps}
use Rattle.plant.specs.declared.device.Fault.{Fault}
use Rattle.plant.specs.declared.device.Fault.TheVariants.{Failed, Stopped}
use Rattle.plant.specs.declared.step.Side.{Side}
use Rattle.plant.specs.declared.step.Side.TheVariants.{A, B}
use Rattle.plant.specs.Sides.{of_side}
use Rattle.journal_rec.specs.declared.record.Record.{Record}
use Rattle.journal_rec.specs.declared.record.Found.{Found}
use Rattle.journal_model.specs.Journals.{head, New, live, Records}
use Rattle.journal_model.specs.Making.{made_header}
use Rattle.journal_model.proofs.Readings.{records_once, records_or_bad}
use Rattle.journal_model.proofs.Images.{synced_image}
use Rattle.journal_model.proofs.Traces.{disk_more}
use Rattle.journal_model.proofs.Making.{heads_blank}
use Rattle.journal_disk.specs.declared.fault.OpenFault.{OpenFault}
use Rattle.journal_disk.specs.declared.fault.OpenFault.TheVariants as faults
use Rattle.journal_disk.specs.declared.journal.Journal.{Journal}
use Rattle.journal_disk.specs.declared.heads.LiveSide.TheVariants as places
use Rattle.journal_disk.specs.Heads.{seen_live}
use Rattle.journal_disk.specs.Openings.{IsOpened}
use Rattle.journal_disk.specs.Faults.{open_fault}
use Rattle.journal_disk.specs.Before.{ReadAlike, AreAsBefore, AreSettled, IsOpening, are_synced}
use Rattle.journal_disk.specs.Opening.{both_synced, cleared, making, new_journal, Made, Untouched, Closing, Closed, Heading, WithHeader, Raising, InUse, made_steps, IsMade, Far, AtStart, OneSynced, BothSynced, Making, far_steps, MayMake, IsSync, Syncs, MayMiss, Makes, Ends, Opens}
use Rattle.journal_disk.specs.Reaching.{IsLast}
use Rattle.journal_disk.proofs.Chains.{chain, reached}
use Rattle.journal_disk.proofs.Prefixes.{AllPrefixes, each_prefix, one_more, missed_images}
use Rattle.journal_disk.proofs.Placing.{on_live, new_live}
use Rattle.journal_disk.proofs.Made.{blank_records, made_images}
use Rattle.journal_disk.proofs.LastSteps.{opening_last}

-- both syncs, where both were acknowledged
pub both_reached : (old new : Option Told) (result : Result (Unit {0}) Fault) → Syncs old new result → OnOk result (new ≡ with_steps old both_synced)
both_reached old new result s = reached far_steps IsSync BothSynced old new s.0 result s.1

-- a new journal after its gate was closed
pub make_joined : (old one two : Option Told) (result : Result (Unit {0}) Fault) → one ≡ with_steps old (cleared true) → Makes false InUse one two result → Makes true InUse old two result
make_joined old one two (Ok u) first m =
    record { far = InUse; may = tt; more = m.more; trace = chain old one two (cleared true) (made_steps false m.far ++ m.more) _ first m.trace (ap (λ far. cleared true ++ (made_steps false far ++ m.more)) m.ends.0); ends = (refl, m.ends.1) }
make_joined old one two (Err fault) first m = by m.far m.may (chain old one two (cleared true) (made_steps false m.far ++ m.more) _ first m.trace refl)
  where
    by : (far : Made) → IsMade false far → two ≡ with_steps old (cleared true ++ (made_steps false far ++ m.more)) → Makes true InUse old two (Err fault)
    by Untouched may trace = record { far = Closed; may = tt; more = m.more; trace = trace; ends = m.ends }
    by (Closing byte) may trace = absurd (cc may)
    by Closed may trace = record { far = Closed; may = tt; more = m.more; trace = trace; ends = m.ends }
    by (Heading bytes) may trace = record { far = Heading bytes; may = tt; more = m.more; trace = trace; ends = m.ends }
    by WithHeader may trace = record { far = WithHeader; may = tt; more = m.more; trace = trace; ends = m.ends }
    by (Raising byte) may trace = record { far = Raising byte; may = tt; more = m.more; trace = trace; ends = m.ends }
    by InUse may trace = record { far = InUse; may = tt; more = m.more; trace = trace; ends = m.ends }

-- ---- the exits of an opening
abbrev pub OpenedBy : Option Told → Option Told → Result (Journal × Vec Found) OpenFault → Type 0
OpenedBy old new result = (steps : List Event) × (new ≡ with_steps old steps) × IfSome old (λ t. Opens t.trace steps result)

-- the sides as they read when the call began
abbrev pub Saw : Option Told → List ℕ → List ℕ → Type 0
Saw told a b = IfSome told (λ t. (a ≡ (disk A t.trace).reads) × (b ≡ (disk B t.trace).reads))

still_reads : (trace : List Event) → ((disk A (trace ++ both_synced)).reads ≡ (disk A trace).reads) × ((disk B (trace ++ both_synced)).reads ≡ (disk B trace).reads)
still_reads trace = (ap (λ (d : Disk). d.reads) (disk_more A trace both_synced), ap (λ (d : Disk). d.reads) (disk_more B trace both_synced))

pub saw_both : (old one : Option Told) (a b : List ℕ) → one ≡ with_steps old both_synced → Saw one a b → Saw old a b
saw_both None one a b first seen = tt
saw_both (Some t) one a b first seen =
    let reads : (a ≡ (disk A (t.trace ++ both_synced)).reads) × (b ≡ (disk B (t.trace ++ both_synced)).reads) = subst (λ (o : Option Told). Saw o a b) first seen in
    (reads.0 ∙ (still_reads t.trace).0, reads.1 ∙ (still_reads t.trace).1)

module _ (old new : Option Told) (result : Result (Journal × Vec Found) OpenFault) where
  -- an exit that knows what was read
  pub exit : (a b : List ℕ) (far : Far) (more : List Event) → Saw old a b → new ≡ with_steps old (far_steps far ++ more) → MayMake a b far → Ends result a b far more → OpenedBy old new result
  exit a b far more seen is may ends = (far_steps far ++ more, is, by old seen)
    where
      by : (o : Option Told) → Saw o a b → IfSome o (λ t. Opens t.trace (far_steps far ++ more) result)
      by None seen = tt
      by (Some t) seen = record {
        far = far;
        more = more;
        steps_are = refl;
        blank = subst (λ (x : List ℕ). MayMake x (disk B t.trace).reads far) seen.0 (subst (λ (y : List ℕ). MayMake a y far) seen.1 may);
        ends = subst (λ (x : List ℕ). Ends result x (disk B t.trace).reads far more) seen.0 (subst (λ (y : List ℕ). Ends result a y far more) seen.1 ends);
      }

  -- an exit while the sides are being synced or read
  pub exit_early : (fault : OpenFault) (far : Far) (more : List Event) → result ≡ Err fault → new ≡ with_steps old (far_steps far ++ more) → IsSync far → ((a b : List ℕ) → Ends (Err fault) a b far more) → OpenedBy old new result
  exit_early fault far more answer is sync ends = (far_steps far ++ more, is, by old)
    where
      may : (a b : List ℕ) (far : Far) → IsSync far → MayMake a b far
      may a b AtStart s = tt
      may a b OneSynced s = tt
      may a b BothSynced s = tt
      may a b (Making is_short made) s = absurd s

      by : (o : Option Told) → IfSome o (λ t. Opens t.trace (far_steps far ++ more) result)
      by None = tt
      by (Some t) = record {
        far = far;
        more = more;
        steps_are = refl;
        blank = may (disk A t.trace).reads (disk B t.trace).reads far sync;
        ends = subst (λ (r : Result (Journal × Vec Found) OpenFault). Ends r (disk A t.trace).reads (disk B t.trace).reads far more) (sym answer) (ends (disk A t.trace).reads (disk B t.trace).reads);
      }

-- an opening that ends in a fault of the plant
plant_ends : (fault : Fault) (side : Side) (far : Far) (more : List Event) → IsLast side fault more → (a b : List ℕ) → Ends (Err (open_fault fault)) a b far more
plant_ends Failed side far more h a b = (side, h)
plant_ends Stopped side far more h a b = h

pub syncs_exit : (old new : Option Told) (result : Result (Journal × Vec Found) OpenFault) (fault : Fault) → Syncs old new (Err fault) → result ≡ Err (open_fault fault) → OpenedBy old new result
syncs_exit old new result fault s answer = exit_early old new result (open_fault fault) s.1.far s.1.more answer s.1.trace s.1.may (plant_ends fault s.0 s.1.far s.1.more s.1.ends)

pub reads_exit : (T : Type 0) (old one new : Option Told) (side : Side) (result : Result (Journal × Vec Found) OpenFault) (fault : OpenFault) → one ≡ with_steps old both_synced → MayMiss {T = T} side one new (Err fault) → result ≡ Err fault → OpenedBy old new result
reads_exit T old one new side result faults.Plant first h answer =
    exit_early old new result faults.Plant BothSynced (Missed side ∷ []) answer (chain old one new both_synced (Missed side ∷ []) _ first h refl) tt (λ a b. (side, refl))
reads_exit T old one new side result faults.Stopped first h answer = exit_early old new result faults.Stopped BothSynced [] answer (h ∙ first) tt (λ a b. refl)
reads_exit T old one new side result (faults.Bad s at) first h answer = exit_early old new result (faults.Bad s at) BothSynced [] answer (h ∙ first) tt (λ a b. (refl, refl))
reads_exit T old one new side result faults.Memory first h answer = exit_early old new result faults.Memory BothSynced [] answer (h ∙ first) tt (λ a b. (refl, refl))

module _ (old three new : Option Told) (a b : List ℕ) (seen_so : Saw old a b) (first : three ≡ with_steps old both_synced) where
  pub made_exit : (is_short : Bool) (result : Result (Journal × Vec Found) OpenFault) (fault : Fault) → seen_live (live (head a) (head b)) ≡ places.New → is_short ≡ nat_lt (length a) 18
      → Makes is_short InUse three new (Err fault) → result ≡ Err (open_fault fault) → OpenedBy old new result
  made_exit is_short result fault live_side short m answer =
      exit old new result a b (Making is_short m.far) m.more seen_so (chain old three new both_synced _ _ first m.trace refl) (new_live (live (head a) (head b)) live_side, short, m.may)
      (subst (λ (r : Result (Journal × Vec Found) OpenFault). Ends r a b (Making is_short m.far) m.more) (sym answer) (plant_ends fault A (Making is_short m.far) m.more m.ends a b))

  pub new_exit : (is_short : Bool) (opened : Journal × Vec Found) → seen_live (live (head a) (head b)) ≡ places.New → is_short ≡ nat_lt (length a) 18
      → new ≡ with_steps three (making is_short) → OpenedBy old new (Ok opened)
  new_exit is_short opened live_side short is =
      exit old new (Ok opened) a b (Making is_short InUse) [] seen_so (chain old three new both_synced (making is_short) _ first is (sym (append-nil _))) (new_live (live (head a) (head b)) live_side, short, tt)
      ((λ i. both_synced ++ new_journal (sym (new_live (live (head a) (head b)) live_side) i) (short i)), refl)

  pub on_exit : (side : Side) (limit : ℕ) (result : Result (Journal × Vec Found) OpenFault) → seen_live (live (head a) (head b)) ≡ places.On side → IsOpened side limit (of_side side a b) result → OpenedBy old three result
  on_exit side limit (Ok opened) live_side is =
      exit old three (Ok opened) a b BothSynced [] seen_so first tt ((λ i. both_synced ++ new_journal (sym (on_live (live (head a) (head b)) side live_side) i) (nat_lt (length a) 18)), refl)
  on_exit side limit (Err (faults.Bad s at)) live_side is = exit_early old three (Err (faults.Bad s at)) (faults.Bad s at) BothSynced [] refl first tt (λ a b. (refl, refl))
  on_exit side limit (Err faults.Memory) live_side is = exit_early old three (Err faults.Memory) faults.Memory BothSynced [] refl first tt (λ a b. (refl, refl))
  on_exit side limit (Err faults.Plant) live_side is = absurd is
  on_exit side limit (Err faults.Stopped) live_side is = absurd is

pub wrong_exit : (old three : Option Told) (side : Side) (at : ℕ) → three ≡ with_steps old both_synced → OpenedBy old three (Err (faults.Bad side at))
wrong_exit old three side at first = exit_early old three (Err (faults.Bad side at)) (faults.Bad side at) BothSynced [] refl first tt (λ a b. (refl, refl))

-- ---- what each image has
alike_self : (a b : List ℕ) → ReadAlike a b a b
alike_self a b = record { records = λ rs. (λ h. h, λ h. h); bad = λ side at. (λ h. h, λ h. h) }

alike_records : (a b x y : List ℕ) (rs : List Record) → Records a b rs → Records x y rs → ReadAlike a b x y
alike_records a b x y rs p q = record {
  records = λ ss. (
    λ h. subst (λ (l : List Record). Records x y l) (records_once a b rs ss p h) q,
    λ h. subst (λ (l : List Record). Records a b l) (records_once x y rs ss q h) p,
  );
  bad = λ side at. (λ h. absurd (records_or_bad a b rs side at p h), λ h. absurd (records_or_bad x y rs side at q h));
}

module _ (trace : List Event) (reads_so : ArePossible trace (disk A trace).reads (disk B trace).reads) where
  abbrev IsFine : List Event → Type 0
  IsFine front = (a b : List ℕ) → ArePossible (trace ++ front) a b → (x y : List ℕ) × ArePossible trace x y × ReadAlike a b x y

  same_image : (a b : List ℕ) → ArePossible trace a b → (x y : List ℕ) × ArePossible trace x y × ReadAlike a b x y
  same_image a b possible = (a, b, possible, alike_self a b)

  synced_a : (more : List Event) (a : List ℕ) → disk A (trace ++ more) ≡ synced (disk A trace) → IsImage (disk A (trace ++ more)) a → IsImage (disk A trace) a
  synced_a more a is image = subst (λ (l : List ℕ). IsImage (disk A trace) l) (sym (synced_image (disk A trace) a (subst (λ d. IsImage d a) is image))) reads_so.0

  fine : (far : Far) → MayMake (disk A trace).reads (disk B trace).reads far → IsFine (far_steps far)
  fine AtStart may a b possible = same_image a b (subst (λ l. ArePossible l a b) (append-nil trace) possible)
  fine OneSynced may a b possible =
      same_image a b (synced_a (Synced A ∷ []) a (disk_more A trace (Synced A ∷ [])) possible.0, subst (λ d. IsImage d b) (disk_more B trace (Synced A ∷ [])) possible.1)
  fine BothSynced may a b possible =
      let image_b = synced_image (disk B trace) b (subst (λ d. IsImage d b) (disk_more B trace both_synced) possible.1) in
      same_image a b (synced_a both_synced a (disk_more A trace both_synced) possible.0, subst (λ (l : List ℕ). IsImage (disk B trace) l) (sym image_b) reads_so.1)
  fine (Making is_short made) may a b possible =
      let blank = heads_blank (head (disk A trace).reads) (head (disk B trace).reads) may.0 in
      let now : ArePossible ((trace ++ both_synced) ++ made_steps is_short made) a b = subst (λ l. ArePossible l a b) (sym (append_assoc trace both_synced (made_steps is_short made))) possible in
      let none = made_images (trace ++ both_synced) (disk A trace).reads (disk B trace).reads is_short made (disk_more A trace both_synced) (disk_more B trace both_synced) blank.0 blank.1 may.1 may.2 a b now in
      ((disk A trace).reads, (disk B trace).reads, reads_so, alike_records a b (disk A trace).reads (disk B trace).reads [] none (blank_records (disk A trace).reads (disk B trace).reads blank.0 blank.1))

  missed : (front : List Event) (side : Side) → IsFine front → IsFine (front ++ Missed side ∷ [])
  missed front side h a b possible = h a b (missed_images side (trace ++ front) a b (subst (λ l. ArePossible l a b) (sym (append_assoc trace front (Missed side ∷ []))) possible))

  module _ (new : live (head (disk A trace).reads) (head (disk B trace).reads) ≡ New) where
    abbrev IsShortA : Bool → Type 0
    IsShortA is_short = is_short ≡ nat_lt (length (disk A trace).reads) 18

    abbrev UpTo : Far → Type 0
    UpTo far = AllPrefixes IsFine (far_steps far)

    -- a step more of the making
    further : (is_short : Bool) (before after : Made) (step : Event) → IsShortA is_short → IsMade is_short after → far_steps (Making is_short before) ++ step ∷ [] ≡ far_steps (Making is_short after) → UpTo (Making is_short before) → UpTo (Making is_short after)
    further is_short before after step short may joined h =
        subst (λ l. AllPrefixes IsFine l) joined (one_more IsFine (far_steps (Making is_short before)) step h (subst IsFine (sym joined) (fine (Making is_short after) (new, short, may))))

    both : UpTo BothSynced
    both = one_more IsFine (Synced A ∷ []) (Synced B) (one_more IsFine [] (Synced A) (fine AtStart tt) (fine OneSynced tt)) (fine BothSynced tt)

    closing : (byte : ℕ) → IsShortA true → UpTo (Making true (Closing byte))
    closing byte short = further true Untouched (Closing byte) (Wrote A 0 (byte ∷ [])) short refl refl both

    closed : (is_short : Bool) → IsShortA is_short → UpTo (Making is_short Closed)
    closed true short = further true (Closing 0) Closed (Synced A) short tt refl (closing 0 short)
    closed false short = both

    heading : (bytes : List ℕ) (is_short : Bool) → IsShortA is_short → UpTo (Making is_short (Heading bytes))
    heading bytes true short = further true Closed (Heading bytes) (Wrote A 1 bytes) short tt refl (closed true short)
    heading bytes false short = further false Closed (Heading bytes) (Wrote A 1 bytes) short tt refl (closed false short)

    with_header : (is_short : Bool) → IsShortA is_short → UpTo (Making is_short WithHeader)
    with_header true short = further true (Heading made_header) WithHeader (Synced A) short tt refl (heading made_header true short)
    with_header false short = further false (Heading made_header) WithHeader (Synced A) short tt refl (heading made_header false short)

    raising : (byte : ℕ) (is_short : Bool) → IsShortA is_short → UpTo (Making is_short (Raising byte))
    raising byte true short = further true WithHeader (Raising byte) (Wrote A 0 (byte ∷ [])) short tt refl (with_header true short)
    raising byte false short = further false WithHeader (Raising byte) (Wrote A 0 (byte ∷ [])) short tt refl (with_header false short)

    in_use : (is_short : Bool) → IsShortA is_short → UpTo (Making is_short InUse)
    in_use true short = further true (Raising 165) InUse (Synced A) short tt refl (raising 165 true short)
    in_use false short = further false (Raising 165) InUse (Synced A) short tt refl (raising 165 false short)

    made_prefixes : (is_short : Bool) (made : Made) → IsShortA is_short → IsMade is_short made → UpTo (Making is_short made)
    made_prefixes is_short Untouched short may = both
    made_prefixes true (Closing byte) short may = closing byte short
    made_prefixes false (Closing byte) short may = absurd (cc may)
    made_prefixes is_short Closed short may = closed is_short short
    made_prefixes is_short (Heading bytes) short may = heading bytes is_short short
    made_prefixes is_short WithHeader short may = with_header is_short short
    made_prefixes is_short (Raising byte) short may = raising byte is_short short
    made_prefixes is_short InUse short may = in_use is_short short

  prefixes : (far : Far) → MayMake (disk A trace).reads (disk B trace).reads far → AllPrefixes IsFine (far_steps far)
  prefixes AtStart may = fine AtStart may
  prefixes OneSynced may = one_more IsFine [] (Synced A) (fine AtStart tt) (fine OneSynced tt)
  prefixes BothSynced may = one_more IsFine (Synced A ∷ []) (Synced B) (one_more IsFine [] (Synced A) (fine AtStart tt) (fine OneSynced tt)) (fine BothSynced tt)
  prefixes (Making is_short made) may = made_prefixes may.0 is_short made may.1 may.2

  opens_before : (steps : List Event) (result : Result (Journal × Vec Found) OpenFault) → Opens trace steps result → AreAsBefore trace steps
  opens_before steps result o front back e =
      each_prefix IsFine steps front back (subst (λ l. AllPrefixes IsFine l) (sym o.steps_are) (by (opening_last result _ _ o.far o.more o.ends))) e
    where
      by : (o.more ≡ []) ⊎ ((side : Side) × (o.more ≡ Missed side ∷ [])) → AllPrefixes IsFine (far_steps o.far ++ o.more)
      by (inl none) = subst (λ l. AllPrefixes IsFine l) (sym (ap (λ l. far_steps o.far ++ l) none ∙ append-nil (far_steps o.far))) (prefixes o.far o.blank)
      by (inr one) =
          subst (λ l. AllPrefixes IsFine (far_steps o.far ++ l)) (sym one.1)
          (one_more IsFine (far_steps o.far) (Missed one.0) (prefixes o.far o.blank) (missed (far_steps o.far) one.0 (fine o.far o.blank)))

  -- once both sides are synced
  read_alike : (a b x y : List ℕ) → x ≡ a → y ≡ b → ReadAlike a b x y
  read_alike a b x y p q = subst (λ l. ReadAlike a b l y) (sym p) (subst (λ l. ReadAlike a b a l) (sym q) (alike_self a b))

  settled : (far : Far) (more : List Event) → MayMake (disk A trace).reads (disk B trace).reads far → (more ≡ []) ⊎ ((side : Side) × (more ≡ Missed side ∷ []))
      → are_synced (far_steps far ++ more) ≡ true → (a b : List ℕ) → ArePossible (trace ++ far_steps far) a b → ReadAlike a b (disk A trace).reads (disk B trace).reads
  settled AtStart more may (inl none) synced a b possible = let no : are_synced [] ≡ true = subst (λ l. are_synced l ≡ true) none synced in absurd (cc no)
  settled AtStart more may (inr one) synced a b possible = let no : are_synced (Missed one.0 ∷ []) ≡ true = subst (λ l. are_synced l ≡ true) one.1 synced in absurd (cc no)
  settled OneSynced more may (inl none) synced a b possible = let no : are_synced (Synced A ∷ []) ≡ true = subst (λ l. are_synced (Synced A ∷ l) ≡ true) none synced in absurd (cc no)
  settled OneSynced more may (inr one) synced a b possible = let no : are_synced (Synced A ∷ Missed one.0 ∷ []) ≡ true = subst (λ l. are_synced (Synced A ∷ l) ≡ true) one.1 synced in absurd (cc no)
  settled BothSynced more may few synced a b possible =
      let image_a = synced_image (disk A trace) a (subst (λ d. IsImage d a) (disk_more A trace both_synced) possible.0) in
      let image_b = synced_image (disk B trace) b (subst (λ d. IsImage d b) (disk_more B trace both_synced) possible.1) in
      read_alike a b (disk A trace).reads (disk B trace).reads (sym image_a) (sym image_b)
  settled (Making is_short made) more may few synced a b possible =
      let blank = heads_blank (head (disk A trace).reads) (head (disk B trace).reads) may.0 in
      let now : ArePossible ((trace ++ both_synced) ++ made_steps is_short made) a b = subst (λ l. ArePossible l a b) (sym (append_assoc trace both_synced (made_steps is_short made))) possible in
      let none = made_images (trace ++ both_synced) (disk A trace).reads (disk B trace).reads is_short made (disk_more A trace both_synced) (disk_more B trace both_synced) blank.0 blank.1 may.1 may.2 a b now in
      alike_records a b (disk A trace).reads (disk B trace).reads [] none (blank_records (disk A trace).reads (disk B trace).reads blank.0 blank.1)

  opens_settled : (steps : List Event) (result : Result (Journal × Vec Found) OpenFault) → Opens trace steps result → AreSettled trace steps
  opens_settled steps result o synced a b possible =
      let how = opening_last result _ _ o.far o.more o.ends in
      let here : ArePossible (trace ++ (far_steps o.far ++ o.more)) a b = subst (λ l. ArePossible (trace ++ l) a b) o.steps_are possible in
      settled o.far o.more o.blank how (subst (λ l. are_synced l ≡ true) o.steps_are synced) a b (back o.more how here)
    where
      back : (more : List Event) → (more ≡ []) ⊎ ((side : Side) × (more ≡ Missed side ∷ [])) → ArePossible (trace ++ (far_steps o.far ++ more)) a b → ArePossible (trace ++ far_steps o.far) a b
      back more (inl none) h = subst (λ l. ArePossible (trace ++ l) a b) (ap (λ l. far_steps o.far ++ l) none ∙ append-nil (far_steps o.far)) h
      back more (inr one) h =
          missed_images one.0 (trace ++ far_steps o.far) a b (subst (λ l. ArePossible l a b) (sym (append_assoc trace (far_steps o.far) (Missed one.0 ∷ []))) (subst (λ l. ArePossible (trace ++ (far_steps o.far ++ l)) a b) one.1 h))

-- EACH MOMENT OF AN OPENING
pub moments_of : (old new : Option Told) (result : Result (Journal × Vec Found) OpenFault) → IfSome old (λ t. ArePossible t.trace (disk A t.trace).reads (disk B t.trace).reads) → OpenedBy old new result
    → (steps : List Event) × (new ≡ with_steps old steps) × IfSome old (λ t. IsOpening t.trace steps result)
moments_of None new result possible h = (h.0, h.1, tt)
moments_of (Some t) new result possible h = (h.0, h.1, record { opens = h.2; before = opens_before t.trace possible h.0 result h.2; settled = opens_settled t.trace possible h.0 result h.2 })
