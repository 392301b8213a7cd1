-- The bytes that the sides read as, before an opening and after it.
use Rattle.std.proofs.Common.{◌≡◌, ◌⊎◌, inl, inr, ⊎_elim, ℕ, true, List, [], ◌∷◌, ◌++◌, Result, fold, refl, ap, ◌∙◌}
use Rattle.std.specs.Global.{Vec}
use Rattle.std.specs.List.{list_any}
use Rattle.std.specs.Prelude.{◌&&◌}
use Rattle.plant.specs.Disks.{Disk, disk, disk_after, ArePossible}
use Rattle.plant.specs.Events.{Event, Synced, Missed}
use Rattle.plant.specs.declared.step.Side.{Side}
use Rattle.plant.specs.declared.step.Side.TheVariants.{A, B}
use Rattle.journal_rec.specs.declared.record.Found.{Found}
use Rattle.journal_model.proofs.Traces.{disk_more}
use Rattle.journal_disk.specs.Before.{IsOpening, ReadAlike, is_sync_of, are_synced}
use Rattle.journal_disk.specs.Opening.{Far, AtStart, OneSynced, BothSynced, Making, far_steps, both_synced, made_steps}
use Rattle.journal_disk.specs.declared.fault.OpenFault.{OpenFault}
use Rattle.journal_disk.specs.declared.journal.Journal.{Journal}
use Rattle.journal_disk.proofs.LastSteps.{opening_last}

abbrev HasStill : List Event → Side → List Event → Type 0
HasStill trace side steps = (disk side (trace ++ steps)).reads ≡ (disk side trace).reads

still_one : (side other : Side) (d : Disk) → (disk_after side d (Synced other)).reads ≡ d.reads
still_one A A d = refl
still_one A B d = refl
still_one B A d = refl
still_one B B d = refl

still_missed : (side other : Side) (d : Disk) → (disk_after side d (Missed other)).reads ≡ d.reads
still_missed A other d = refl
still_missed B other d = refl

-- a sync, and a call that failed, leave what a side reads as
still : (side : Side) (d : Disk) (far : Far) (more : List Event) → (far ≡ AtStart) ⊎ (far ≡ OneSynced) → (more ≡ []) ⊎ ((other : Side) × (more ≡ Missed other ∷ [])) → (fold (disk_after side) d (far_steps far ++ more)).reads ≡ d.reads
still side d far more (inl start) (inl none) = rw (start, none) refl
still side d far more (inl start) (inr one) = rw (start, one.1) (still_missed side one.0 d)
still side d far more (inr first) (inl none) = rw (first, none) (still_one side A d)
still side d far more (inr first) (inr one) = rw (first, one.1) (still_missed side one.0 (disk_after side d (Synced A)) ∙ still_one side A d)

alike_same : (a b x y : List ℕ) → a ≡ x → b ≡ y → ReadAlike a b x y
alike_same a b x y p q = rw (p, q) (record { records = λ rs. (λ h. h, λ h. h); bad = λ side at. (λ h. h, λ h. h) })

both_any : (side : Side) (more : List Event) → list_any (is_sync_of side) (both_synced ++ more) ≡ true
both_any A more = refl
both_any B more = refl

synced_after : (steps more : List Event) → steps ≡ both_synced ++ more → are_synced steps ≡ true
synced_after steps more is = ap are_synced is ∙ (λ i. both_any A more i && both_any B more i)

-- HOW FAR IT CAME: both sides are synced, or what they read as is untouched
came : (far : Far) → ((more : List Event) × (far_steps far ≡ both_synced ++ more)) ⊎ ((far ≡ AtStart) ⊎ (far ≡ OneSynced))
came AtStart = inr (inl refl)
came OneSynced = inr (inr refl)
came BothSynced = inl ([], refl)
came (Making is_short made) = inl (made_steps is_short made, refl)

pub opened_alike : (trace steps : List Event) (result : Result (Journal × Vec Found) OpenFault) → IsOpening trace steps result → ArePossible (trace ++ steps) (disk A (trace ++ steps)).reads (disk B (trace ++ steps)).reads
    → ReadAlike (disk A (trace ++ steps)).reads (disk B (trace ++ steps)).reads (disk A trace).reads (disk B trace).reads
opened_alike trace steps result o possible =
    let opens = o.opens in
    ⊎_elim
    (λ (both : (more : List Event) × (far_steps opens.far ≡ both_synced ++ more)). o.settled (synced_after steps (both.0 ++ opens.more) (opens.steps_are ∙ ap (λ l. l ++ opens.more) both.1)) (disk A (trace ++ steps)).reads (disk B (trace ++ steps)).reads possible)
    (λ early. let last = opening_last result _ _ opens.far opens.more opens.ends in
    let same : (side : Side) → (disk side (trace ++ steps)).reads ≡ (disk side trace).reads = λ side. ap (λ (d : Disk). d.reads) (disk_more side trace steps) ∙ ap (λ l. (fold (disk_after side) (disk side trace) l).reads) opens.steps_are ∙ still side (disk side trace) opens.far opens.more early last in
    alike_same _ _ _ _ (same A) (same B))
    (came opens.far)
