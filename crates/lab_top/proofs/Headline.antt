-- The headline follows from what a run is.
use Rattle.std.proofs.Common.{◌≡◌, ℕ, List, [], ◌∷◌, ◌++◌, length, take, Option, Some, None, refl, sym, ap, subst, ◌∙◌, append_assoc}
use Rattle.std.specs.Prelude.{IfSome}
use Rattle.std.proofs.lemmas.List.{append-nil}
use Rattle.phys_lab.specs.Labs.{Lab}
use Rattle.virt_topo.specs.declared.experiment.Experiment.{Experiment}
use Rattle.plant.specs.Events.{Event}
use Rattle.plant.specs.Told.{Told}
use Rattle.plant.specs.Worlds.{World, world_of}
use Rattle.plant.specs.declared.drill.Drill.{Drill}
use Rattle.lab_model.specs.Sound.{Keeps, Standing}
use Rattle.lab_model.specs.Isolated.{Isolated}
use Rattle.lab_model.specs.Holding.{Holding}
use Rattle.lab_model.specs.Cabled.{Cabled}
use Rattle.records_model.specs.Appends.{standing}
use Rattle.records_model.specs.Labs.{LabState, lab_in}
use Rattle.records_model.specs.Works.{IsSound}
use Rattle.lab_core.specs.Sessions.{Terms}
use Rattle.lab_state.specs.Texts.{the_texts}
use Rattle.lab_top.specs.declared.status.Status.{Status}
use Rattle.lab_top.specs.Headline.{AtEachMoment, StaysSo, StillTold}
use Rattle.lab_top.specs.Pieces.{Begun, planned_of, steps_of, trace_after, with_drill_if, with_pieces}
use Rattle.lab_top.specs.Ran.{Outside, Ran}
use Rattle.lab_words.specs.Words.{Choices}

-- WHAT A SOUND TRACE SAYS AT EACH MOMENT, of one part of what the world keeps
at_each : (IsAsHad : Lab → List Experiment → World → Type 0) → ((w : World) (s : LabState) (size : ℕ) → Keeps w (standing s size) → IsAsHad (lab_in s.lab) s.experiments w)
    → (trace : List Event) → IsSound the_texts trace → AtEachMoment IsAsHad trace
at_each IsAsHad part trace sound n within a b possible =
    let at = sound n within a b possible in
    let stand = at.1 in
    (stand.state, record { records = stand.records; read = stand.read; lab_of = stand.lab_of }, part _ stand.state _ (subst (λ (x : Standing). Keeps (world_of (take n trace)) x) stand.is at.2))

-- WHAT A PLANT TELLS after pieces: its trace goes on
module _ (Q : Told → Type 0) where
  after_drill : (t : Told) (drill : Option Drill) (begun : List Begun) → ((u : Told) → u.trace ≡ t.trace → (v : Told) × (with_pieces (Some u) begun ≡ Some v) × (v.trace ≡ trace_after u.trace begun))
      → (v : Told) × (with_pieces (with_drill_if (Some t) drill) begun ≡ Some v) × (v.trace ≡ trace_after t.trace begun)
  after_drill t None begun to = to t refl
  after_drill t (Some drill) begun to = to _ refl

still_told : (t : Told) (begun : List Begun) → (v : Told) × (with_pieces (Some t) begun ≡ Some v) × (v.trace ≡ trace_after t.trace begun)
still_told t [] = (t, refl, refl)
still_told t (b ∷ begun) = after_drill (λ u. Unit {0}) (record { trace = t.trace ++ steps_of b.piece; marks = t.marks ++ record { at = length t.trace; faults = b.piece.faults } ∷ []; drills = t.drills }) (planned_of b) begun (λ u same. still_told u begun)

-- its trace begins with that of before
grown : (trace : List Event) (begun : List Begun) → (steps : List Event) × (trace_after trace begun ≡ trace ++ steps)
grown trace [] = ([], sym (append-nil trace))
grown trace (b ∷ begun) = let more = grown (trace ++ steps_of b.piece) begun in (steps_of b.piece ++ more.0, more.1 ∙ append_assoc trace (steps_of b.piece) more.0)

-- WHAT A RUN LEAVES, where what it found is sound
module _ (terms : Terms) (choices : Option Choices) (old new : Outside) (status : Status) (made : List Begun) (r : Ran terms choices old new status made) where
  module _ (IsSo : List Event → Type 0) (so : (trace : List Event) → IsSound the_texts trace → IsSo trace) where
    from : (told : Option Told) → old.plant.told ≡ told → IfSome told (λ t. IsSound the_texts t.trace → StillTold IsSo t new.plant)
    from None is = tt
    from (Some t) is = λ sound.
        let told = still_told t made in
        let now : new.plant.told ≡ Some told.0 = r.told ∙ ap (λ (o : Option Told). with_pieces o made) is ∙ told.1 in
        let more = grown t.trace made in
        let end = subst (λ (o : Option Told). IfSome o (λ u. IsSound the_texts u.trace)) now (subst (λ (o : Option Told). IfSome o (λ x. IsSound the_texts x.trace → IfSome new.plant.told (λ u. IsSound the_texts u.trace))) is r.sound sound) in
        record { told = told.0; steps = more.0; is = now; grown = told.2 ∙ more.1; so = so told.0.trace end }

    stays : StaysSo IsSo old.plant new.plant
    stays = from old.plant.told refl

  pub stays_sound : StaysSo (IsSound the_texts) old.plant new.plant
  stays_sound = stays (IsSound the_texts) (λ trace sound. sound)

  pub stays_isolated : StaysSo (AtEachMoment Isolated) old.plant new.plant
  stays_isolated = stays (AtEachMoment Isolated) (at_each Isolated (λ w s size keeps. keeps.isolated))

  pub stays_holding : StaysSo (AtEachMoment (λ lab es w. Holding lab es)) old.plant new.plant
  stays_holding = stays _ (at_each (λ lab es w. Holding lab es) (λ w s size keeps. keeps.holding))

  pub stays_cabled : StaysSo (AtEachMoment Cabled) old.plant new.plant
  stays_cabled = stays (AtEachMoment Cabled) (at_each Cabled (λ w s size keeps. keeps.cabled))
