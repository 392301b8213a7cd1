-- The trace after an append that ended, failed or stopped.
use Rattle.std.proofs.Common.{◌≡◌, ◌⊎◌, inl, inr, ℕ, Bool, false, List, [], ◌∷◌, ◌++◌, Result, refl, sym, ap, ◌∙◌, subst, append_assoc}
use Rattle.std.proofs.lemmas.List.{append-nil}
use Rattle.plant.specs.Events.{Event, Missed}
use Rattle.plant.specs.declared.step.Side.{Side}
use Rattle.journal_rec.specs.declared.record.Record.{Record}
use Rattle.journal_model.specs.Journals.{gate_after}
use Rattle.journal_model.specs.Appends.{Run, Nothing, Body, Settled, Gate, All, added, IsOn, AfterRun}
use Rattle.journal_model.proofs.Runs.{run_images}
use Rattle.records_model.specs.Labs.{LabState, Texts, at_first}
use Rattle.records_model.specs.Works.{IsSound, AtWork, MayAppend}
use Rattle.records_model.proofs.LabLaws.{folds_push}
use Rattle.records_model.proofs.Starts.{missed_sound}
use Rattle.records_model.proofs.Work.{append_sound, append_works}
use Rattle.journal_disk.specs.Standing.{side_of, gate_of, Ends}
use Rattle.journal_disk.specs.declared.fault.AppendFault.{AppendFault}
use Rattle.journal_disk.specs.declared.journal.Journal.{Journal}
use Rattle.journal_disk.proofs.Prefixes.{missed_images}
use Rattle.journal_disk.proofs.LastSteps.{append_last}
use Rattle.swap_turns.specs.Pieces.{is_command, is_miss, is_outer, has_command, has_miss, has_outer}
use Rattle.swap_turns.specs.Working.{StandForLab, StandForEither, Works}
use Rattle.swap_turns.proofs.Quiet.{shows, last_quiet}

-- the whole append
pub append_done : (t : Texts) (trace more : List Event) (j : Journal) (rs : List Record) (s u : LabState) (r : Record) (run : Run) → Works t trace j rs s → MayAppend t trace rs s r u → run ≡ All → more ≡ []
    → AtWork t (trace ++ (added (side_of j) (gate_of j) r run ++ more)) (side_of j) (rs ++ r ∷ []) u
append_done t trace more j rs s u r run works may whole none =
    let steps : added (side_of j) (gate_of j) r run ++ more ≡ added (side_of j) (gate_after rs) r All = (λ i. added (side_of j) (works.gate i) r (whole i) ++ none i) ∙ append-nil (added (side_of j) (gate_after rs) r All) in
    subst (λ l. AtWork t (trace ++ l) (side_of j) (rs ++ r ∷ []) u) (sym steps) (append_works t trace (side_of j) rs s r u works.work may)

-- a fact of a trace that a missed call leaves, after steps with such a last one
pub with_last : (P : List Event → Type 0) (trace steps more : List Event) (side : Side) → ((l : List Event) → P l → P (l ++ Missed side ∷ [])) → (more ≡ []) ⊎ (more ≡ Missed side ∷ []) → P (trace ++ steps) → P (trace ++ (steps ++ more))
with_last P trace steps more side missed (inl none) h = subst (λ l. P (trace ++ l)) (sym (ap (λ m. steps ++ m) none ∙ append-nil steps)) h
with_last P trace steps more side missed (inr one) h =
    subst (λ m. P (trace ++ (steps ++ m))) (sym one) (subst P (append_assoc trace steps (Missed side ∷ [])) (missed (trace ++ steps) h))

module _ (t : Texts) (trace : List Event) (side : Side) (rs : List Record) (s u : LabState) (r : Record) (work : AtWork t trace side rs s) (may : MayAppend t trace rs s r u) where
  before : (a b : List ℕ) → IsOn side a b rs → StandForLab t a b s
  before a b on = record { records = rs; read = on.reads; lab_of = work.lab_of }

  after : (a b : List ℕ) → IsOn side a b (rs ++ r ∷ []) → StandForLab t a b u
  after a b on = record { records = rs ++ r ∷ []; read = on.reads; lab_of = folds_push t at_first rs r s u work.lab_of may.follows }

  either : (a b : List ℕ) (run : Run) → AfterRun side a b rs r run → StandForLab t a b s ⊎ StandForLab t a b u
  either a b Nothing on = inl (before a b on)
  either a b (Body bytes) on = inl (before a b on)
  either a b Settled on = inl (before a b on)
  either a b (Gate byte) (inl on) = inl (before a b on)
  either a b (Gate byte) (inr on) = inr (after a b on)
  either a b All on = inr (after a b on)

  abbrev pub Left : List Event → Type 0
  Left l = IsSound t l × StandForEither t l s u

  run_left : (run : Run) → Left (trace ++ added side (gate_after rs) r run)
  run_left run = (
    append_sound t trace side rs s r u work may run,
    λ a b possible. either a b run (run_images trace side work.opened.epoch rs r run work.opened.known work.opened.rests may.is_record a b possible),
  )

  missed_left : (l : List Event) → Left l → Left (l ++ Missed side ∷ [])
  missed_left l h = (missed_sound t l side h.0, λ a b possible. h.1 a b (missed_images side l a b possible))

  -- AN APPEND, however it ended
  pub append_left : (gate : ℕ) (result : Result (Unit {0}) AppendFault) (run : Run) (more : List Event) → gate ≡ gate_after rs → Ends side result run more → Left (trace ++ (added side gate r run ++ more))
  append_left gate result run more at ends =
      subst (λ g. Left (trace ++ (added side g r run ++ more))) (sym at)
      (with_last (λ l. Left l) trace (added side (gate_after rs) r run) more side missed_left (append_last side result run more ends) (run_left run))

-- its steps are writes and syncs
pub append_quiet : (side : Side) (gate : ℕ) (r : Record) (run : Run) → (has_command (added side gate r run) ≡ false) × (has_outer (added side gate r run) ≡ false) × (has_miss (added side gate r run) ≡ false)
append_quiet side gate r Nothing = (refl, refl, refl)
append_quiet side gate r (Body bytes) = (refl, refl, refl)
append_quiet side gate r Settled = (refl, refl, refl)
append_quiet side gate r (Gate byte) = (refl, refl, refl)
append_quiet side gate r All = (refl, refl, refl)

some_side : (side : Side) (more : List Event) → (more ≡ []) ⊎ (more ≡ Missed side ∷ []) → (more ≡ []) ⊎ ((at : Side) × (more ≡ Missed at ∷ []))
some_side side more (inl none) = inl none
some_side side more (inr one) = inr (side, one)

pub ended_quiet : (side : Side) (gate : ℕ) (r : Record) (run : Run) (more : List Event) (result : Result (Unit {0}) AppendFault) → Ends side result run more
    → (has_command (added side gate r run ++ more) ≡ false) × (has_outer (added side gate r run ++ more) ≡ false)
ended_quiet side gate r run more result ends =
    let first = append_quiet side gate r run in
    let last = last_quiet more (some_side side more (append_last side result run more ends)) in
    (shows is_command _ (added side gate r run) more false false refl first.0 last.0, shows is_outer _ (added side gate r run) more false false refl first.1 last.1)

pub ended_missed : (side : Side) (gate : ℕ) (r : Record) (run : Run) (more : List Event) (y : Bool) → has_miss more ≡ y → has_miss (added side gate r run ++ more) ≡ y
ended_missed side gate r run more y last = shows is_miss _ (added side gate r run) more false y refl (append_quiet side gate r run).2 last
