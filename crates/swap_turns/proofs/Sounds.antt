-- A trace stays sound through steps after which each image reads as one that was possible before.
use Rattle.std.proofs.Common.{◌≡◌, ◌⊎◌, inl, inr, ℕ, ◌+◌, ◌-◌, ◌*◌, ◌^◌, ◌<◌, ◌≤◌, false, fold, List, [], ◌∷◌, ◌++◌, length, take, drop, count_by, refl, sym, ap, ◌∙◌, subst, arith, take-append-drop}
use Rattle.std.proofs.lemmas.Bool.{cases_lt, or_parts}
use Rattle.std.proofs.lemmas.List.{take-append-le, take_all}
use Rattle.std.proofs.lemmas.List.Folds.{list_any-append}
use Rattle.std.proofs.Math.Seq.{take-append-add}
use Rattle.plant.specs.Disks.{disk, ArePossible}
use Rattle.plant.specs.Events.{Event, Wrote, Synced, Cut, Missed, Did, Restarted, Unread}
use Rattle.plant.specs.Worlds.{World, world_of, world_after}
use Rattle.plant.specs.declared.step.Side.TheVariants.{A, B}
use Rattle.journal_rec.specs.declared.record.Record.{Record}
use Rattle.lab_model.specs.Sound.{is_moving, Keeps, SoundAt}
use Rattle.journal_model.specs.Journals.{Live, New, On, Wrong, live, head, gate_after, Records, RecordsOf, size_of, journal_length}
use Rattle.journal_model.specs.Appends.{IsOn}
use Rattle.journal_model.proofs.Readings.{records_once}
use Rattle.records_model.specs.Labs.{LabState, Texts, AreCanonical, LabOf, at_first}
use Rattle.records_model.specs.Appends.{standing, StandFor}
use Rattle.records_model.specs.Works.{IsSound}
use Rattle.records_model.proofs.LabLaws.{folds_once}
use Rattle.records_model.proofs.Stages.{world_more}
use Rattle.journal_disk.specs.Before.{AreAsBefore, ReadAlike}
use Rattle.journal_disk.specs.Standing.{side_of, IsAt}
use Rattle.journal_disk.specs.declared.journal.Journal.{Journal}
use Rattle.swap_turns.specs.Pieces.{is_command, has_command}
use Rattle.swap_turns.specs.Working.{Works}
use Rattle.swap_turns.proofs.Images.{reads_possible, reads_on}

-- without a device command the world stays
pub world_stays : (steps : List Event) (w : World) → has_command steps ≡ false → fold world_after w steps ≡ w
world_stays [] w quiet = refl
world_stays (Wrote side at bytes ∷ steps) w quiet = world_stays steps w quiet
world_stays (Synced side ∷ steps) w quiet = world_stays steps w quiet
world_stays (Cut side size ∷ steps) w quiet = world_stays steps w quiet
world_stays (Missed side ∷ steps) w quiet = world_stays steps w quiet
world_stays (Did op applied answer ∷ steps) w quiet = absurd (cc quiet)
world_stays (Restarted a b ∷ steps) w quiet = world_stays steps w quiet
world_stays (Unread device ∷ steps) w quiet = world_stays steps w quiet

pub take_quiet : (n : ℕ) (steps : List Event) → has_command steps ≡ false → has_command (take n steps) ≡ false
take_quiet n steps quiet = (or_parts _ _ (sym (list_any-append is_command (take n steps) (drop n steps)) ∙ ap has_command (take-append-drop n steps) ∙ quiet)).0

-- the same records have one length, but for a new journal, which is 0 or 18 bytes long
of_one_length : (l m : Live) (a b x y : List ℕ) (rs : List Record) → RecordsOf l a b rs → RecordsOf m x y rs → (rs ≡ []) ⊎ (size_of l rs ≡ size_of m rs)
of_one_length New m a b x y rs p q = inl p
of_one_length (Wrong side) m a b x y rs p q = absurd p
of_one_length (On side) New a b x y rs p q = inl q
of_one_length (On side) (Wrong tide) a b x y rs p q = absurd q
of_one_length (On side) (On tide) a b x y rs p q = inr refl

of_none : (l : Live) → size_of l [] ≤ 18
of_none New = omega arith
of_none (On side) = omega arith
of_none (Wrong side) = omega arith

keeps_first : (w : World) (s : LabState) (m n : ℕ) → at_first ≡ s → n ≤ 18 → Keeps w (standing s m) → Keeps w (standing s n)
keeps_first w s m n first few keeps = record {
  holding = keeps.holding;
  isolated = keeps.isolated;
  cabled = keeps.cabled;
  room = subst (λ (x : LabState). n + 39 * count_by is_moving x.experiments ≤ 2 ^ 32) first (omega (arith, few));
}

keeps_alike : (t : Texts) (w : World) (a b x y : List ℕ) (rs : List Record) (s : LabState) → Records a b rs → Records x y rs → LabOf t rs s → Keeps w (standing s (journal_length x y rs)) → Keeps w (standing s (journal_length a b rs))
keeps_alike t w a b x y rs s p q lab keeps = elim (of_one_length (live (head a) (head b)) (live (head x) (head y)) a b x y rs p q) [
  | inl none ↦ keeps_first w s (journal_length x y rs) (journal_length a b rs) (subst (λ l. LabOf t l s) none lab) (subst (λ l. size_of (live (head a) (head b)) l ≤ 18) (sym none) (of_none (live (head a) (head b)))) keeps
  | inr same ↦ subst (λ n. Keeps w (standing s n)) (sym same) keeps
]

abbrev pub Ok : Texts → List Event → Type 0
Ok t trace = SoundAt (λ a b s. StandFor t a b s) trace

pub at_end : (t : Texts) (trace : List Event) → IsSound t trace → Ok t trace
at_end t trace sound = subst (λ l. Ok t l) (take_all (length trace) trace (omega arith)) (sound (length trace) (omega arith))

-- one moment
moment_sound : (t : Texts) (trace front : List Event) → has_command front ≡ false → ((a b : List ℕ) → ArePossible (trace ++ front) a b → (x y : List ℕ) × ArePossible trace x y × ReadAlike a b x y) → Ok t trace → Ok t (trace ++ front)
moment_sound t trace front quiet before now a b possible =
    let was = before a b possible in
    let at = now was.0 was.1 was.2 in
    let f = at.1 in
    let read : Records a b f.records = (was.3.records f.records).1 f.read in
    let st = standing f.state (journal_length a b f.records) in
    let was_kept : Keeps (world_of trace) (standing f.state (journal_length was.0 was.1 f.records)) = subst (λ x. Keeps (world_of trace) x) f.is at.2 in
    let kept : Keeps (world_of trace) st = keeps_alike t (world_of trace) a b was.0 was.1 f.records f.state read f.read f.lab_of was_kept in (
      st,
      record { records = f.records; read = read; state = f.state; lab_of = f.lab_of; is = refl },
      subst (λ w. Keeps w st) (sym (world_more trace front ∙ world_stays front (world_of trace) quiet)) kept,
    )

pub back_to : (m n : ℕ) → m < n → n ≡ m + (n - m)
back_to m n above = omega arith

-- EACH MOMENT
pub steps_sound : (t : Texts) (trace steps : List Event) → has_command steps ≡ false → AreAsBefore trace steps → IsSound t trace → IsSound t (trace ++ steps)
steps_sound t trace steps quiet before sound n within = elim (cases_lt (length trace) n) [
  | inl above ↦
      let k = n - length trace in
      let is : take n (trace ++ steps) ≡ trace ++ take k steps = ap (λ m. take m (trace ++ steps)) (back_to (length trace) n above) ∙ take-append-add trace steps k in
      subst (λ l. Ok t l) (sym is) (moment_sound t trace (take k steps) (take_quiet k steps quiet) (before (take k steps) (drop k steps) (sym (take-append-drop k steps))) (at_end t trace sound))
  | inr below ↦ subst (λ l. Ok t l) (sym (take-append-le n trace steps below)) (sound n below)
]

-- A JOURNAL THAT IS OPEN over a sound trace is at work
pub opened_works : (t : Texts) (trace : List Event) (j : Journal) (rs : List Record) → IsAt trace j rs → IsSound t trace → (s : LabState) × Works t trace j rs s
opened_works t trace j rs at sound =
    let a = (disk A trace).reads in
    let b = (disk B trace).reads in
    let x = at_end t trace sound a b (reads_possible trace (side_of j) rs at.opened) in
    let on : IsOn (side_of j) a b rs = reads_on trace (side_of j) rs at.opened in
    let f = x.1 in
    let same : f.records ≡ rs = records_once a b f.records rs f.read on.reads in
    let size : journal_length a b f.records ≡ gate_after rs + 1 = ap (λ l. journal_length a b l) same ∙ on.size in (
      f.state,
      record {
        work = record {
          opened = at.opened;
          lab_of = subst (λ l. LabOf t l f.state) same f.lab_of;
          keeps = subst (λ s. Keeps (world_of trace) s) (f.is ∙ ap (λ n. standing f.state n) size) x.2;
          sound = sound;
        };
        gate = at.gate;
      },
    )

pub works_as : (t : Texts) (trace : List Event) (j : Journal) (rs : List Record) (s : LabState) → IsAt trace j rs → IsSound t trace → AreCanonical t → LabOf t rs s → Works t trace j rs s
works_as t trace j rs s at sound can lab =
    let x = opened_works t trace j rs at sound in
    subst (λ u. Works t trace j rs u) (folds_once t at_first rs x.0 s can x.1.work.lab_of lab) x.1
