-- The steps of an opening: no command, no start, no failed reading, and a failed call only at the end.
use Rattle.std.proofs.Common.{◌≡◌, ◌⊎◌, inl, inr, Bool, true, false, ◌||◌, List, [], ◌∷◌, ◌++◌, Result, refl, ap, ◌∙◌}
use Rattle.std.specs.Global.{Vec}
use Rattle.std.specs.List.{list_any}
use Rattle.std.proofs.lemmas.List.Folds.{list_any-append}
use Rattle.plant.specs.Events.{Event, Missed}
use Rattle.plant.specs.declared.step.Side.{Side}
use Rattle.journal_rec.specs.declared.record.Found.{Found}
use Rattle.journal_disk.specs.Opening.{Untouched, Closing, Closed, Heading, WithHeader, Raising, InUse, Far, AtStart, OneSynced, BothSynced, Making, far_steps, Opens}
use Rattle.journal_disk.specs.declared.fault.OpenFault.{OpenFault}
use Rattle.journal_disk.specs.declared.journal.Journal.{Journal}
use Rattle.journal_disk.proofs.LastSteps.{opening_last}
use Rattle.swap_turns.specs.Pieces.{is_command, is_miss, is_outer, has_command, has_miss, has_outer}

-- no device command, no start, no failed reading, no call that missed
abbrev IsQuiet : List Event → Type 0
IsQuiet steps = (has_command steps ≡ false) × (has_outer steps ≡ false) × (has_miss steps ≡ false)

far_quiet : (far : Far) → IsQuiet (far_steps far)
far_quiet AtStart = (refl, refl, refl)
far_quiet OneSynced = (refl, refl, refl)
far_quiet BothSynced = (refl, refl, refl)
far_quiet (Making is_short Untouched) = (refl, refl, refl)
far_quiet (Making is_short (Closing byte)) = (refl, refl, refl)
far_quiet (Making true Closed) = (refl, refl, refl)
far_quiet (Making false Closed) = (refl, refl, refl)
far_quiet (Making true (Heading bytes)) = (refl, refl, refl)
far_quiet (Making false (Heading bytes)) = (refl, refl, refl)
far_quiet (Making true WithHeader) = (refl, refl, refl)
far_quiet (Making false WithHeader) = (refl, refl, refl)
far_quiet (Making true (Raising byte)) = (refl, refl, refl)
far_quiet (Making false (Raising byte)) = (refl, refl, refl)
far_quiet (Making true InUse) = (refl, refl, refl)
far_quiet (Making false InUse) = (refl, refl, refl)

-- steps, and then others
pub shows : (p : Event → Bool) (steps front back : List Event) (x y : Bool) → steps ≡ front ++ back → list_any p front ≡ x → list_any p back ≡ y → list_any p steps ≡ (x || y)
shows p steps front back x y is first second = ap (list_any p) is ∙ list_any-append p front back ∙ (λ i. first i || second i)

pub last_quiet : (more : List Event) → (more ≡ []) ⊎ ((side : Side) × (more ≡ Missed side ∷ [])) → (has_command more ≡ false) × (has_outer more ≡ false)
last_quiet more (inl none) = (ap has_command none, ap has_outer none)
last_quiet more (inr one) = (ap has_command one.1, ap has_outer one.1)

pub opening_quiet : (trace steps : List Event) (result : Result (Journal × Vec Found) OpenFault) → Opens trace steps result → (has_command steps ≡ false) × (has_outer steps ≡ false)
opening_quiet trace steps result o =
    let first = far_quiet o.far in
    let last = last_quiet o.more (opening_last result _ _ o.far o.more o.ends) in (
      shows is_command steps (far_steps o.far) o.more false false o.steps_are first.0 last.0,
      shows is_outer steps (far_steps o.far) o.more false false o.steps_are first.1 last.1,
    )

pub opening_missed : (trace steps : List Event) (result : Result (Journal × Vec Found) OpenFault) (o : Opens trace steps result) (y : Bool) → has_miss o.more ≡ y → has_miss steps ≡ y
opening_missed trace steps result o y last = shows is_miss steps (far_steps o.far) o.more false y o.steps_are (far_quiet o.far).2 last
