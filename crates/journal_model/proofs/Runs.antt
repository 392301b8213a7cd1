-- The live side and its images after each part of an append.
use Rattle.std.proofs.Common.{◌≡◌, ◌≢◌, ◌⊎◌, inl, inr, ℕ, ◌+◌, fold, List, [], ◌∷◌, ◌++◌, length, refl, sym, ap, ◌∙◌, subst}
use Rattle.std.proofs.lemmas.Bool.{cases_eq}
use Rattle.lab_base.proofs.Members.{Has-append}
use Rattle.plant.specs.Disks.{Disk, wrote, synced, IsImage, at_once, disk, disk_after, ArePossible}
use Rattle.plant.specs.Events.{Event}
use Rattle.plant.specs.declared.step.Side.{Side}
use Rattle.plant.specs.declared.step.Side.TheVariants.{A, B}
use Rattle.plant.specs.Sides.{of_side}
use Rattle.journal_rec.specs.declared.record.Record.{Record}
use Rattle.journal_rec.specs.Payloads.{IsRecord, body}
use Rattle.journal_model.specs.Journals.{head, gate_after}
use Rattle.journal_model.specs.Appends.{front, other_side, IsOlder, Known, Rests, Run, Nothing, Body, Settled, Gate, All, added, IsOn, AfterRun}
use Rattle.journal_model.proofs.Images.{synced_image}
use Rattle.journal_model.proofs.Gates.{Writes, IsReady, Opens, length_front, on_shut, on_open, rests_image, writes_image, ready_image, opens_image, rests_writes, rests_ready, ready_opens, opens_rests}
use Rattle.journal_model.proofs.Traces.{disk_more}

-- the live side after a run
abbrev ran_on : Disk → ℕ → Record → Run → Disk
ran_on d g r Nothing = d
ran_on d g r (Body bytes) = wrote d (g + 1) bytes
ran_on d g r Settled = synced (wrote d (g + 1) (body r))
ran_on d g r (Gate byte) = wrote (synced (wrote d (g + 1) (body r))) g (byte ∷ [])
ran_on d g r All = synced (wrote (synced (wrote d (g + 1) (body r))) g (165 ∷ []))

here_ran : (side : Side) (d : Disk) (g : ℕ) (r : Record) (run : Run) → fold (disk_after side) d (added side g r run) ≡ ran_on d g r run
here_ran A d g r Nothing = refl
here_ran A d g r (Body bytes) = refl
here_ran A d g r Settled = refl
here_ran A d g r (Gate byte) = refl
here_ran A d g r All = refl
here_ran B d g r Nothing = refl
here_ran B d g r (Body bytes) = refl
here_ran B d g r Settled = refl
here_ran B d g r (Gate byte) = refl
here_ran B d g r All = refl

there_ran : (side : Side) (d : Disk) (g : ℕ) (r : Record) (run : Run) → fold (disk_after (other_side side)) d (added side g r run) ≡ d
there_ran A d g r Nothing = refl
there_ran A d g r (Body bytes) = refl
there_ran A d g r Settled = refl
there_ran A d g r (Gate byte) = refl
there_ran A d g r All = refl
there_ran B d g r Nothing = refl
there_ran B d g r (Body bytes) = refl
there_ran B d g r Settled = refl
there_ran B d g r (Gate byte) = refl
there_ran B d g r All = refl

-- what is known of the other side stays
pub known_added : (trace : List Event) (side : Side) (epoch : List ℕ) (rs : List Record) (g : ℕ) (r : Record) (run : Run) → Known trace side epoch rs → Known (trace ++ added side g r run) side epoch rs
known_added trace side epoch rs g r run known = record {
  eight = known.eight;
  written = known.written;
  other = known.other;
  there = disk_more (other_side side) trace (added side g r run) ∙ there_ran side (disk (other_side side) trace) g r run ∙ known.there;
  older = known.older;
}

pub known_push : (trace : List Event) (side : Side) (epoch : List ℕ) (rs : List Record) (r : Record) → IsRecord r → Known trace side epoch rs → Known trace side epoch (rs ++ r ∷ [])
known_push trace side epoch rs r is_r known = record {
  eight = known.eight;
  written = λ q h. elim (Has-append rs (r ∷ []) q h) [
    | inl g ↦ known.written q g
    | inr g ↦ elim g [ inl e ↦ subst (λ x. IsRecord x) e is_r | inr no' ↦ absurd no' ]
  ];
  other = known.other;
  there = known.there;
  older = known.older;
}

-- the image of one side, and of the other
pub possible_at : (side : Side) (trace : List Event) (a b : List ℕ) → ArePossible trace a b → IsImage (disk side trace) (of_side side a b)
possible_at A trace a b possible = possible.0
possible_at B trace a b possible = possible.1

pub older_image : (trace : List Event) (side : Side) (epoch : List ℕ) (rs : List Record) (a b : List ℕ) → Known trace side epoch rs → ArePossible trace a b → IsOlder (head (of_side (other_side side) a b)) epoch
older_image trace side epoch rs a b known possible =
    let is : IsImage (at_once known.other) (of_side (other_side side) a b) = subst (λ d. IsImage d (of_side (other_side side) a b)) known.there (possible_at (other_side side) trace a b possible) in
    subst (λ l. IsOlder (head l) epoch) (sym (synced_image (at_once known.other) (of_side (other_side side) a b) is)) known.older

-- the state of the live side after a run
abbrev AtRun : Disk → List ℕ → List Record → Record → Run → Type 0
AtRun d epoch rs r Nothing = Rests d epoch rs
AtRun d epoch rs r (Body bytes) = Writes d epoch rs
AtRun d epoch rs r Settled = IsReady d epoch rs r
AtRun d epoch rs r (Gate byte) = Opens d epoch rs r byte
AtRun d epoch rs r All = Rests d epoch (rs ++ r ∷ [])

at_run : (d : Disk) (epoch : List ℕ) (rs : List Record) (r : Record) (run : Run) → Rests d epoch rs → AtRun (ran_on d (length (front epoch rs)) r run) epoch rs r run
at_run d epoch rs r Nothing rests = rests
at_run d epoch rs r (Body bytes) rests = rests_writes epoch rs d bytes rests
at_run d epoch rs r Settled rests = rests_ready epoch rs d r rests
at_run d epoch rs r (Gate byte) rests = ready_opens epoch rs _ r byte (rests_ready epoch rs d r rests)
at_run d epoch rs r All rests = opens_rests epoch rs _ r (ready_opens epoch rs _ r 165 (rests_ready epoch rs d r rests))

pub run_disk : (trace : List Event) (side : Side) (epoch : List ℕ) (rs : List Record) (r : Record) (run : Run) → length epoch ≡ 8 → Rests (disk side trace) epoch rs → AtRun (disk side (trace ++ added side (gate_after rs) r run)) epoch rs r run
run_disk trace side epoch rs r run eight rests =
    subst (λ d. AtRun d epoch rs r run) (sym (disk_more side trace (added side (gate_after rs) r run) ∙ here_ran side (disk side trace) (gate_after rs) r run))
    (subst (λ g. AtRun (ran_on (disk side trace) g r run) epoch rs r run) (length_front epoch rs eight) (at_run (disk side trace) epoch rs r run rests))

-- EACH IMAGE AFTER EACH PART OF AN APPEND
pub run_images : (trace : List Event) (side : Side) (epoch : List ℕ) (rs : List Record) (r : Record) (run : Run) → Known trace side epoch rs → Rests (disk side trace) epoch rs → IsRecord r
    → (a b : List ℕ) → ArePossible (trace ++ added side (gate_after rs) r run) a b → AfterRun side a b rs r run
run_images trace side epoch rs r run known rests is_r a b possible =
    let now = known_added trace side epoch rs (gate_after rs) r run known in
    let older = older_image (trace ++ added side (gate_after rs) r run) side epoch rs a b now possible in
    by run (run_disk trace side epoch rs r run known.eight rests) (possible_at side (trace ++ added side (gate_after rs) r run) a b possible) older
  where
    shut : IsOlder (head (of_side (other_side side) a b)) epoch → (gate : ℕ) × (rest : List ℕ) × (gate ≢ 165) × (of_side side a b ≡ front epoch rs ++ gate ∷ rest) → IsOn side a b rs
    shut older i = on_shut side epoch rs a b i.0 i.1 known.eight known.written older i.2 i.3

    both : IsOlder (head (of_side (other_side side) a b)) epoch → (gate : ℕ) (rest : List ℕ) → of_side side a b ≡ front epoch rs ++ gate ∷ (body r ++ rest) → IsOn side a b rs ⊎ IsOn side a b (rs ++ r ∷ [])
    both older gate rest e = elim (cases_eq gate 165) [
      | inl is_open ↦ inr (on_open side epoch rs r a b rest known.eight known.written is_r older (e ∙ ap (λ g. front epoch rs ++ g ∷ (body r ++ rest)) is_open))
      | inr is_shut ↦ inl (on_shut side epoch rs a b gate (body r ++ rest) known.eight known.written older is_shut e)
    ]

    by : (run : Run) {d : Disk} → AtRun d epoch rs r run → IsImage d (of_side side a b) → IsOlder (head (of_side (other_side side) a b)) epoch → AfterRun side a b rs r run
    by Nothing s is older = shut older (rests_image epoch rs _ _ s is)
    by (Body bytes) s is older = shut older (writes_image epoch rs _ _ s is)
    by Settled s is older = shut older (ready_image epoch rs r _ _ s is)
    by (Gate byte) s is older = let i = opens_image epoch rs r byte _ _ s is in both older i.0 i.1 i.2
    by All s is older =
        let i = rests_image epoch (rs ++ r ∷ []) _ _ s is in
        on_shut side epoch (rs ++ r ∷ []) a b i.0 i.1 known.eight (known_push trace side epoch rs r is_r known).written older i.2 i.3
