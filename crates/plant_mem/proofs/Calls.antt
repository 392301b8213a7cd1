-- The state after the calls of the disk, as the trait has it.
use Rattle.std.proofs.Common.{◌≡◌, inl, inr, ℕ, Bool, true, false, List, [], ◌∷◌, ◌++◌, Option, Some, None, Result, refl, sym, ap, ◌∙◌, subst, if◌then◌else◌}
use Rattle.std.proofs.lemmas.List.{append-nil}
use Rattle.plant.specs.DiskCalls.{MayStop, WriteSteps, SyncSteps, CutSteps}
use Rattle.plant.specs.Events.{Event, Wrote, Synced, Cut, Missed}
use Rattle.plant.specs.Told.{Told, with_steps}
use Rattle.plant.specs.declared.device.Fault.{Fault}
use Rattle.plant.specs.declared.drill.Pick.{Pick}
use Rattle.plant.specs.declared.drill.Pick.TheVariants.{Nothing, All, Torn}
use Rattle.plant.specs.declared.step.Side.{Side}
use Rattle.plant_mem.specs.DiskPlans.{counted_all, fails_next, stops_next, stop_counted, is_done}
use Rattle.plant_mem.specs.CallEnds.{met, call_end, answered, has_effect, ended, counted_call, counted_read, after_call}
use Rattle.plant_mem.specs.Held.{Held, with_events, effect_if}
use Rattle.plant_mem.specs.declared.call_end.CallEnd.{CallEnd}
use Rattle.plant_mem.specs.declared.call_end.CallEnd.TheVariants.{Done, Fails, Stops, AlreadyStopped}

abbrev rests : CallEnd → Bool
rests Done = false
rests Fails = false
rests (Stops pick) = false
rests AlreadyStopped = true

met_goes_on : (stop : Option Pick) (fails : Bool) → false ≡ rests (met stop fails)
met_goes_on None true = refl
met_goes_on None false = refl
met_goes_on (Some pick) fails = refl

-- only a stopped plant rests
rests_by : (stopped room : Bool) (stop : Option Pick) (fails : Bool) → stopped ≡ rests (if stopped then AlreadyStopped else (if room then met stop fails else Stops Nothing))
rests_by true room stop fails = refl
rests_by false true stop fails = met_goes_on stop fails
rests_by false false stop fails = refl

rests_is : (room : Bool) (h : Held) → h.stopped ≡ rests (call_end room h)
rests_is room h = rests_by h.stopped room (stops_next h.stop) (fails_next h.disk_plans)

-- what is counted is no more than that
counted_as : {X : Type 0} (of : Held → X) (stopped room : Bool) (h k : Held) → of k ≡ of h → of (if stopped then h else (if room then k else h)) ≡ of h
counted_as of true room h k same = refl
counted_as of false true h k same = same
counted_as of false false h k same = refl

counted_told : (room : Bool) (h : Held) → (counted_call room h).told ≡ h.told
counted_told room h = counted_as (λ x. x.told) h.stopped room h (record h { disk_plans = counted_all h.disk_plans; stop = stop_counted h.stop }) refl

pub counted_faults : (room : Bool) (h : Held) → (counted_call room h).faults ≡ h.faults
counted_faults room h = counted_as (λ x. x.faults) h.stopped room h (record h { disk_plans = counted_all h.disk_plans; stop = stop_counted h.stop }) refl

read_as : {X : Type 0} (of : Held → X) (stopped : Bool) (h k : Held) → of k ≡ of h → of (if stopped then h else k) ≡ of h
read_as of true h k same = refl
read_as of false h k same = same

pub read_faults : (h : Held) → (counted_read h).faults ≡ h.faults
read_faults h = read_as (λ x. x.faults) h.stopped h (record h { disk_plans = counted_all h.disk_plans }) refl

-- the steps of a call that ends so
abbrev steps_by : CallEnd → Side → Event → List Event
steps_by Done side effect = effect ∷ []
steps_by Fails side effect = Missed side ∷ []
steps_by (Stops pick) side effect = effect_if (is_done pick) effect
steps_by AlreadyStopped side effect = []

abbrev tells : Held → Option Told
tells h = Some h.told

abbrev tells_trace : Held → List Event → Option Told
tells_trace h trace = Some (record h.told { trace = trace })

ended_told : (f : CallEnd) (side : Side) (effect : Event) (h : Held) → tells (ended f side (with_events (effect_if (has_effect f) effect) h)) ≡ with_steps (tells h) (steps_by f side effect)
ended_told Done side effect h = refl
ended_told Fails side effect h = ap (λ (l : List Event). tells_trace h (l ++ Missed side ∷ [])) (append-nil h.told.trace)
ended_told (Stops pick) side effect h = refl
ended_told AlreadyStopped side effect h = refl

told_after : (room : Bool) (side : Side) (effect : Event) (h k : Held) → k ≡ after_call room side effect h → tells k ≡ with_steps (tells h) (steps_by (call_end room h) side effect)
told_after room side effect h k is =
    ap tells is ∙ ended_told (call_end room h) side effect (counted_call room h)
    ∙ ap (λ (t : Told). with_steps (Some t) (steps_by (call_end room h) side effect)) (counted_told room h)

may_stop : (pick : Pick) (effect : Event) → MayStop effect (effect_if (is_done pick) effect)
may_stop Nothing effect = inl refl
may_stop All effect = inr refl
may_stop Torn effect = inr refl

write_steps : (f : CallEnd) (stopped : Bool) (side : Side) (at : ℕ) (bytes : List ℕ) → stopped ≡ rests f → WriteSteps side at bytes stopped (answered f tt) (steps_by f side (Wrote side at bytes))
write_steps Done true side at bytes is = absurd (cc is)
write_steps Done false side at bytes is = refl
write_steps Fails true side at bytes is = absurd (cc is)
write_steps Fails false side at bytes is = inl refl
write_steps (Stops pick) true side at bytes is = absurd (cc is)
write_steps (Stops pick) false side at bytes is = may_stop pick (Wrote side at bytes)
write_steps AlreadyStopped true side at bytes is = (refl, refl)
write_steps AlreadyStopped false side at bytes is = absurd (cc is)

sync_steps : (f : CallEnd) (stopped : Bool) (side : Side) → stopped ≡ rests f → SyncSteps side stopped (answered f tt) (steps_by f side (Synced side))
sync_steps Done true side is = absurd (cc is)
sync_steps Done false side is = refl
sync_steps Fails true side is = absurd (cc is)
sync_steps Fails false side is = refl
sync_steps (Stops pick) true side is = absurd (cc is)
sync_steps (Stops pick) false side is = may_stop pick (Synced side)
sync_steps AlreadyStopped true side is = (refl, refl)
sync_steps AlreadyStopped false side is = absurd (cc is)

cut_steps : (f : CallEnd) (stopped : Bool) (side : Side) (size : ℕ) → stopped ≡ rests f → CutSteps side size stopped (answered f tt) (steps_by f side (Cut side size))
cut_steps Done true side size is = absurd (cc is)
cut_steps Done false side size is = refl
cut_steps Fails true side size is = absurd (cc is)
cut_steps Fails false side size is = inl refl
cut_steps (Stops pick) true side size is = absurd (cc is)
cut_steps (Stops pick) false side size is = may_stop pick (Cut side size)
cut_steps AlreadyStopped true side size is = (refl, refl)
cut_steps AlreadyStopped false side size is = absurd (cc is)

-- the steps of a write, a sync and a cut
module _ (room : Bool) (side : Side) (h k : Held) (result : Result (Unit {0}) Fault) (answer : result ≡ answered (call_end room h) tt) where
  pub wrote_steps : (at : ℕ) (bytes : List ℕ) → k ≡ after_call room side (Wrote side at bytes) h → (steps : List Event) × (tells k ≡ with_steps (tells h) steps) × WriteSteps side at bytes h.stopped result steps
  wrote_steps at bytes is = (
    steps_by (call_end room h) side (Wrote side at bytes),
    told_after room side (Wrote side at bytes) h k is,
    subst (λ r. WriteSteps side at bytes h.stopped r (steps_by (call_end room h) side (Wrote side at bytes))) (sym answer) (write_steps (call_end room h) h.stopped side at bytes (rests_is room h)),
  )

  pub synced_steps : k ≡ after_call room side (Synced side) h → (steps : List Event) × (tells k ≡ with_steps (tells h) steps) × SyncSteps side h.stopped result steps
  synced_steps is = (
    steps_by (call_end room h) side (Synced side),
    told_after room side (Synced side) h k is,
    subst (λ r. SyncSteps side h.stopped r (steps_by (call_end room h) side (Synced side))) (sym answer) (sync_steps (call_end room h) h.stopped side (rests_is room h)),
  )

  pub cut_off_steps : (size : ℕ) → k ≡ after_call room side (Cut side size) h → (steps : List Event) × (tells k ≡ with_steps (tells h) steps) × CutSteps side size h.stopped result steps
  cut_off_steps size is = (
    steps_by (call_end room h) side (Cut side size),
    told_after room side (Cut side size) h k is,
    subst (λ r. CutSteps side size h.stopped r (steps_by (call_end room h) side (Cut side size))) (sym answer) (cut_steps (call_end room h) h.stopped side size (rests_is room h)),
  )
