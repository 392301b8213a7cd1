-- Sound traces: one step more, a device command, a sync, a restart.
use Rattle.std.proofs.Common.{◌≡◌, inl, inr, ℕ, Bool, true, false, map, Result, List, [], ◌∷◌, ◌++◌, length, refl, sym, ◌∙◌, subst, arith, length-append}
use Rattle.std.proofs.lemmas.Bool.{cases_lt}
use Rattle.std.proofs.lemmas.List.{take-append-le, take_all}
use Rattle.lab_base.specs.Lists.{Has, AllDiffer}
use Rattle.phys_lab.specs.Kept.{IsLab}
use Rattle.virt_topo.specs.declared.experiment.Experiment.{Experiment}
use Rattle.plant.specs.Worlds.{World, world_of, world_after}
use Rattle.plant.specs.Disks.{IsImage, disk, at_once, ArePossible}
use Rattle.plant.specs.Events.{Event, Did, Restarted, Synced}
use Rattle.plant.specs.declared.step.Side.{Side}
use Rattle.plant.specs.declared.step.Side.TheVariants.{A, B}
use Rattle.plant.specs.declared.device.Answer.{Answer}
use Rattle.plant.specs.declared.device.Fault.{Fault}
use Rattle.plant.specs.declared.device.DeviceOp.{DeviceOp}
use Rattle.plant.proofs.Traces.{disk_push}
use Rattle.lab_model.specs.Leavings.{did}
use Rattle.lab_model.specs.Parts.{Part, Parts}
use Rattle.lab_model.specs.Courses.{IsCommandOf}
use Rattle.lab_model.specs.Sound.{Standing, Keeps, SoundAt, Sound}
use Rattle.journal_model.specs.Appends.{IsReadable}
use Rattle.lab_model.proofs.PartLaws.{whole_from_parts, parts_from_whole}
use Rattle.lab_model.proofs.Steps.{parts_after}
use Rattle.lab_model.proofs.TraceLaws.{world_push, same_or_not}
use Rattle.journal_model.proofs.Images.{synced_image}
use Rattle.journal_model.proofs.Traces.{did_possible}
use Rattle.journal_model.proofs.Syncs.{synced_fewer}

-- a sound trace stays sound where the moment after the step is
pub sound_push : (StandsFor : List ℕ → List ℕ → Standing → Type 0) (trace : List Event) (event : Event) → Sound StandsFor trace → SoundAt StandsFor (trace ++ event ∷ []) → Sound StandsFor (trace ++ event ∷ [])
sound_push StandsFor trace event sound now n within = elim (cases_lt (length trace) n) [
  | inl above ↦ subst (λ t. SoundAt StandsFor t) (sym (take_all n (trace ++ event ∷ []) (omega (arith, length-append trace (event ∷ []))))) now
  | inr below ↦ subst (λ t. SoundAt StandsFor t) (sym (take-append-le n trace (event ∷ []) below)) (sound n below)
]

-- what is known of the sender of a command, whatever image a stop leaves
pub record Sender (s : Standing) (w v : World) (op : DeviceOp) : Type 0 where
  pub is_lab : IsLab s.lab
  pub names : AllDiffer (map (λ x. x.name) s.experiments)
  pub by : Experiment
  pub listed : Has s.experiments by
  pub its : IsCommandOf s.lab by op
  pub keeps : Part s.lab w by → Part s.lab v by

-- A DEVICE COMMAND KEEPS A TRACE SOUND where its experiment's part stays.
pub did_sound : (StandsFor : List ℕ → List ℕ → Standing → Type 0) (trace : List Event) (op : DeviceOp) (applied : Bool) (answer : Result Answer Fault) → SoundAt StandsFor trace
    → ((a b : List ℕ) (s : Standing) → ArePossible trace a b → StandsFor a b s → Sender s (world_of trace) (did (world_of trace) op applied answer) op)
    → SoundAt StandsFor (trace ++ Did op applied answer ∷ [])
did_sound StandsFor trace op applied answer sound sent a b possible =
    let was = did_possible trace op applied answer a b possible in
    let at = sound a b was in
    let s = at.0 in
    let by = sent a b s was at.1 in
    let parts = parts_from_whole s.lab s.experiments by.is_lab at.2.holding (world_of trace) at.2.isolated at.2.cabled in
    let after : Parts s.lab s.experiments (did (world_of trace) op applied answer) =
    parts_after s.lab s.experiments by.is_lab at.2.holding (world_of trace) by.by op applied answer parts by.listed by.its
    (λ e in_e. same_or_not s.experiments e by.by by.names in_e by.listed) (by.keeps (parts.each by.by by.listed)) in
    let whole = whole_from_parts s.lab s.experiments by.is_lab at.2.holding (did (world_of trace) op applied answer) after in
    let keeps : Keeps (did (world_of trace) op applied answer) s = record { holding = at.2.holding; isolated = whole.0; cabled = whole.1; room = at.2.room } in
    let same : did (world_of trace) op applied answer ≡ world_after (world_of trace) (Did op applied answer) = either applied in
    (s, at.1, subst (λ v. Keeps v s) (same ∙ sym (world_push trace (Did op applied answer))) keeps)
  where
    either : (applied : Bool) → did (world_of trace) op applied answer ≡ world_after (world_of trace) (Did op applied answer)
    either true = refl
    either false = refl

-- A RESTART KEEPS A TRACE SOUND: the images that it makes durable were possible, and are the only ones now.
pub restart_sound : (StandsFor : List ℕ → List ℕ → Standing → Type 0) (trace : List Event) (a b : List ℕ) → ArePossible trace a b → SoundAt StandsFor trace → SoundAt StandsFor (trace ++ Restarted a b ∷ [])
restart_sound StandsFor trace a b was sound c d possible =
    let now : IsImage (at_once a) c × IsImage (at_once b) d = rw (disk_push A trace (Restarted a b), disk_push B trace (Restarted a b)) at possible in
    let left : c ≡ a = synced_image (at_once a) c now.0 in
    let right : d ≡ b = synced_image (at_once b) d now.1 in
    let at = sound a b was in
    (at.0, subst (λ x. StandsFor x d at.0) (sym left) (subst (λ x. StandsFor a x at.0) (sym right) at.1), subst (λ v. Keeps v at.0) (sym (world_push trace (Restarted a b))) at.2)

-- A SYNC, A WRITE, A CUT: where each image after it was possible before, the trace stays sound.
pub fewer_sound : (StandsFor : List ℕ → List ℕ → Standing → Type 0) (trace : List Event) (event : Event) → world_after (world_of trace) event ≡ world_of trace
    → ((a b : List ℕ) → ArePossible (trace ++ event ∷ []) a b → (s : Standing) × StandsFor a b s × Keeps (world_of trace) s) → SoundAt StandsFor (trace ++ event ∷ [])
fewer_sound StandsFor trace event same each a b possible = let at = each a b possible in (at.0, at.1, subst (λ v. Keeps v at.0) (sym (world_push trace event ∙ same)) at.2)

-- and so keeps a trace sound, whatever the sides stand for
pub synced_sound : (StandsFor : List ℕ → List ℕ → Standing → Type 0) (side : Side) (trace : List Event) → IsReadable (disk side trace) → SoundAt StandsFor trace → SoundAt StandsFor (trace ++ Synced side ∷ [])
synced_sound StandsFor side trace readable sound a b possible =
    let at = sound a b (synced_fewer side trace a b readable possible) in
    (at.0, at.1, subst (λ w. Keeps w at.0) (sym (world_push trace (Synced side))) at.2)
