-- An append over a trace: at each of its moments the images have the old records, or these and the new one.
use Rattle.std.proofs.Common.{◌≡◌, inl, inr, ℕ, ◌+◌, fold, List, [], ◌∷◌, ◌++◌, refl, sym, ap, ◌∙◌, subst, append_assoc}
use Rattle.std.proofs.lemmas.List.Sums.{fold-append}
use Rattle.std.proofs.lemmas.List.{append-nil}
use Rattle.plant.specs.Disks.{disk}
use Rattle.plant.specs.Worlds.{World, blank, world_of, world_after}
use Rattle.plant.specs.Events.{Event, Wrote, Synced}
use Rattle.plant.specs.declared.step.Side.{Side}
use Rattle.journal_rec.specs.declared.record.Record.{Record}
use Rattle.lab_model.specs.Sound.{Standing, Keeps, SoundAt, Sound}
use Rattle.journal_rec.specs.Payloads.{IsRecord, body}
use Rattle.journal_model.specs.Journals.{gate_after}
use Rattle.journal_model.specs.Appends.{Known, Rests, Run, Nothing, Body, Settled, Gate, All, added, IsOn, AfterRun}
use Rattle.records_model.specs.Labs.{LabState, Texts, LabOf, Follows}
use Rattle.records_model.specs.Appends.{standing, StandFor}
use Rattle.journal_model.proofs.Runs.{run_images}
use Rattle.records_model.proofs.TraceLaws.{sound_push}
use Rattle.records_model.proofs.LabLaws.{folds_push}

pub world_more : (trace more : List Event) → world_of (trace ++ more) ≡ fold world_after (world_of trace) more
world_more trace more = fold-append world_after blank trace more

world_ran : (side : Side) (w : World) (g : ℕ) (r : Record) (run : Run) → fold world_after w (added side g r run) ≡ w
world_ran side w g r Nothing = refl
world_ran side w g r (Body bytes) = refl
world_ran side w g r Settled = refl
world_ran side w g r (Gate byte) = refl
world_ran side w g r All = refl

-- an append leaves the world
pub world_added : (trace : List Event) (side : Side) (g : ℕ) (r : Record) (run : Run) → world_of (trace ++ added side g r run) ≡ world_of trace
world_added trace side g r run = world_more trace (added side g r run) ∙ world_ran side (world_of trace) g r run

-- an image with these records stands for their lab
pub stands_on : (t : Texts) (side : Side) (a b : List ℕ) (rs : List Record) (s : LabState) → LabOf t rs s → IsOn side a b rs → StandFor t a b (standing s (gate_after rs + 1))
stands_on t side a b rs s lab on = record { records = rs; read = on.reads; state = s; lab_of = lab; is = ap (λ n. standing s n) (sym on.size) }

module _ (t : Texts) (trace : List Event) (side : Side) (epoch : List ℕ) (rs : List Record) (r : Record) (s u : LabState) (known : Known trace side epoch rs) (rests : Rests (disk side trace) epoch rs) (is_r : IsRecord r)
    (lab : LabOf t rs s) (follows : Follows t s r u) (before : Keeps (world_of trace) (standing s (gate_after rs + 1))) (after : Keeps (world_of trace) (standing u (gate_after (rs ++ r ∷ []) + 1))) where
  stands : (a b : List ℕ) (run : Run) → AfterRun side a b rs r run → (x : Standing) × StandFor t a b x × Keeps (world_of trace) x
  stands a b Nothing on = (standing s (gate_after rs + 1), stands_on t side a b rs s lab on, before)
  stands a b (Body bytes) on = (standing s (gate_after rs + 1), stands_on t side a b rs s lab on, before)
  stands a b Settled on = (standing s (gate_after rs + 1), stands_on t side a b rs s lab on, before)
  stands a b (Gate byte) (inl on) = (standing s (gate_after rs + 1), stands_on t side a b rs s lab on, before)
  stands a b (Gate byte) (inr on) = (standing u (gate_after (rs ++ r ∷ []) + 1), stands_on t side a b (rs ++ r ∷ []) u (folds_push t _ rs r s u lab follows) on, after)
  stands a b All on = (standing u (gate_after (rs ++ r ∷ []) + 1), stands_on t side a b (rs ++ r ∷ []) u (folds_push t _ rs r s u lab follows) on, after)

  -- AT EACH MOMENT OF AN APPEND the trace is sound, where the world keeps both labs
  pub run_sound_at : (run : Run) → SoundAt (λ a b x. StandFor t a b x) (trace ++ added side (gate_after rs) r run)
  run_sound_at run a b possible =
      let x = stands a b run (run_images trace side epoch rs r run known rests is_r a b possible) in
      (x.0, x.1, subst (λ w. Keeps w x.0) (sym (world_added trace side (gate_after rs) r run)) x.2)

  push : (first : List Event) (event : Event) (both : List Event) → first ++ event ∷ [] ≡ both → Sound (λ a b x. StandFor t a b x) (trace ++ first) → SoundAt (λ a b x. StandFor t a b x) (trace ++ both) → Sound (λ a b x. StandFor t a b x) (trace ++ both)
  push first event both e sound now =
      let same : (trace ++ first) ++ event ∷ [] ≡ trace ++ both = append_assoc trace first (event ∷ []) ∙ ap (λ l. trace ++ l) e in
      subst (λ l. Sound (λ a b x. StandFor t a b x) l) same (sound_push (λ a b x. StandFor t a b x) (trace ++ first) event sound (subst (λ l. SoundAt (λ a b x. StandFor t a b x) l) (sym same) now))

  abbrev Ok : List Event → Type 0
  Ok l = Sound (λ a b x. StandFor t a b x) l

  sound_nothing : Ok trace → Ok (trace ++ [])
  sound_nothing sound = subst (λ l. Sound (λ a b x. StandFor t a b x) l) (sym (append-nil trace)) sound

  sound_body : (bytes : List ℕ) → Ok trace → Ok (trace ++ added side (gate_after rs) r (Body bytes))
  sound_body bytes sound = push [] (Wrote side (gate_after rs + 1) bytes) (added side (gate_after rs) r (Body bytes)) refl (sound_nothing sound) (run_sound_at (Body bytes))

  sound_settled : Ok trace → Ok (trace ++ added side (gate_after rs) r Settled)
  sound_settled sound = push (added side (gate_after rs) r (Body (body r))) (Synced side) (added side (gate_after rs) r Settled) refl (sound_body (body r) sound) (run_sound_at Settled)

  sound_gate : (byte : ℕ) → Ok trace → Ok (trace ++ added side (gate_after rs) r (Gate byte))
  sound_gate byte sound = push (added side (gate_after rs) r Settled) (Wrote side (gate_after rs) (byte ∷ [])) (added side (gate_after rs) r (Gate byte)) refl (sound_settled sound) (run_sound_at (Gate byte))

  -- AND SO SOUND at every prefix, wherever the append fails or stops
  pub run_sound : (run : Run) → Sound (λ a b x. StandFor t a b x) trace → Sound (λ a b x. StandFor t a b x) (trace ++ added side (gate_after rs) r run)
  run_sound Nothing sound = sound_nothing sound
  run_sound (Body bytes) sound = sound_body bytes sound
  run_sound Settled sound = sound_settled sound
  run_sound (Gate byte) sound = sound_gate byte sound
  run_sound All sound = push (added side (gate_after rs) r (Gate 165)) (Synced side) (added side (gate_after rs) r All) refl (sound_gate 165 sound) (run_sound_at All)
