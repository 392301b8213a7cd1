-- Where a controller goes on after turns of an open swap, its lab is the one that their steps say.
use Rattle.std.proofs.Common.{◌≡◌, ℕ, List, ◌++◌, sym, ap, ◌∙◌, subst}
use Rattle.plant.specs.Seen.{Seen}
use Rattle.journal_disk.specs.declared.journal.Journal.{Journal}
use Rattle.records_model.specs.Labs.{LabState}
use Rattle.lab_state.specs.Changes.{CanEnd}
use Rattle.lab_state.specs.Texts.{the_texts}
use Rattle.swap_txn.specs.declared.ended.Ended.{Ended as Over}
use Rattle.swap_txn.specs.declared.live.Live.{Live}
use Rattle.swap_turns.specs.Swaps.{Swap as SwapOf}
use Rattle.swap_turns.specs.Finishing.{Finishes}
use Rattle.swap_turns.specs.Running.{OpenSwap as RunningSwap, Working}
use Rattle.swap_turns.specs.Turning.{Outcome, More, TurnsBack, Ended, Stuck, Unwritten, Stopped, IfGoesOn, TurnSteps}
use Rattle.swap_turns.proofs.Finishing.{onward_swap}
use Rattle.swap_mgr.specs.Managing.{HasTurned, HasTurnedToEnd}
use Rattle.swap_turns.specs.declared.progress.Progress.{Progress}
use Rattle.swap_turns.specs.declared.progress.Progress.TheVariants as progress
use Rattle.swap_mgr.specs.Turns.{over_of}
use Rattle.recovery.specs.One.{CanEndBy, EndsBy}
use Rattle.lab_core.specs.Swapping.{HasEndedIn, HasTurnedIn}
use Rattle.lab_core.proofs.Told.{TellsOf, ended_as, same_lab, tells_of}

-- WITH THAT LAB, where it goes on
module _ (Is : Outcome → LabState → Type 0) (Works : LabState → Type 0) (lab : LabState) where
  in_lab : (outcome : Outcome) → ((after : LabState) → Is outcome after → after ≡ lab) → (after : LabState) × Is outcome after × Works after → Is outcome lab × Works lab
  in_lab outcome same a = let is = same a.0 a.1 in (subst (Is outcome) is a.1, subst Works is a.2)

  pub goes_in : (outcome : Outcome) → ((outcome ≡ Unwritten → ⊥) → (outcome ≡ Stopped → ⊥) → (after : LabState) → Is outcome after → after ≡ lab) → IfGoesOn outcome ((after : LabState) × Is outcome after × Works after) → IfGoesOn outcome (Is outcome lab × Works lab)
  goes_in More same a = in_lab More (same (λ h. cc h) (λ h. cc h)) a
  goes_in (TurnsBack why) same a = in_lab (TurnsBack why) (same (λ h. cc h) (λ h. cc h)) a
  goes_in (Ended leg) same a = in_lab (Ended leg) (same (λ h. cc h) (λ h. cc h)) a
  goes_in (Stuck trouble) same a = in_lab (Stuck trouble) (same (λ h. cc h) (λ h. cc h)) a
  goes_in Unwritten same a = tt
  goes_in Stopped same a = tt

-- A TURN
module _ (s : LabState) (pairs : List (RunningSwap × Live)) (exp : List ℕ) (was now : Seen) (j k : Journal) (told : Progress) (new : List Live) (h : HasTurned the_texts s pairs exp was now j k told new) where
  abbrev turn_works : LabState → Type 0
  turn_works after = Working the_texts now.told k after (h.before ++ (h.next ++ h.behind))

  turned_lab : (lab : LabState) → EndsBy s exp (over_of told) lab → (h.outcome ≡ Unwritten → ⊥) → (h.outcome ≡ Stopped → ⊥) → (after : LabState) → TurnSteps s h.swap h.steps h.outcome after → after ≡ lab
  turned_lab lab ended written going after turn = same_lab s h.swap exp h.named h.steps told h.outcome (tells_of h.swap told h.outcome h.is_told) written going after lab turn ended

  pub turned_in : (lab : LabState) → EndsBy s exp (over_of told) lab → HasTurnedIn s pairs exp was now j k told new lab
  turned_in lab ended = record { turn = h; goes = goes_in (λ outcome after. TurnSteps s h.swap h.steps outcome after) turn_works lab h.outcome (turned_lab lab ended) h.all }

can_end_turn_over : (s : LabState) (pairs : List (RunningSwap × Live)) (exp : List ℕ) (was now : Seen) (j k : Journal) (over : Over) (new : List Live) → HasTurned the_texts s pairs exp was now j k (progress.Ended over) new → CanEnd s exp over.committed
can_end_turn_over s pairs exp was now j k over new h =
    let a = subst (λ (x : Outcome). IfGoesOn x ((after : LabState) × TurnSteps s h.swap h.steps x after × Working the_texts now.told k after (h.before ++ (h.next ++ h.behind)))) h.is_told.outcome_is h.all in
    (a.0, ended_as s h.swap exp h.named h.steps over h.swap.leg a.0 h.is_told.committed a.1)

pub can_end_turn : (s : LabState) (pairs : List (RunningSwap × Live)) (exp : List ℕ) (was now : Seen) (j k : Journal) (told : Progress) (new : List Live) → HasTurned the_texts s pairs exp was now j k told new → CanEndBy s exp (over_of told)
can_end_turn s pairs exp was now j k progress.More new h = tt
can_end_turn s pairs exp was now j k (progress.Trouble what) new h = tt
can_end_turn s pairs exp was now j k (progress.Ended over) new h = can_end_turn_over s pairs exp was now j k over new h
can_end_turn s pairs exp was now j k (progress.Stuck what) new h = tt
can_end_turn s pairs exp was now j k progress.Stopped new h = tt

-- TURNED TO ITS END
module _ (s : LabState) (pairs : List (RunningSwap × Live)) (exp : List ℕ) (was now : Seen) (j k : Journal) (told : Progress) (new : List Live) (h : HasTurnedToEnd the_texts s pairs exp was now j k told new) where
  abbrev end_works : LabState → Type 0
  end_works after = Working the_texts now.told k after (h.before ++ h.behind)

  tells_at : (at : SwapOf) → at ≡ h.swap.swap → TellsOf at told h.finished.outcome
  tells_at at is = subst (λ (p : SwapOf). TellsOf p told h.finished.outcome) (h.finished.swap_is ∙ sym is) (tells_of h.finished.at told h.finished.outcome h.finished.is_told)

  ended_lab : (lab : LabState) → EndsBy s exp (over_of told) lab → (h.finished.outcome ≡ Unwritten → ⊥) → (h.finished.outcome ≡ Stopped → ⊥) → (after : LabState) → Finishes s h.swap h.finished.steps h.finished.outcome after → after ≡ lab
  ended_lab lab ended written going after f =
      let at_is : f.at.swap ≡ h.swap.swap = onward_swap s h.swap f.front f.at f.onward in
      same_lab s f.at exp (ap (λ (p : SwapOf). p.name) at_is ∙ h.named) f.behind told h.finished.outcome (tells_at f.at.swap at_is) written going after lab f.turn ended

  pub ended_in : (lab : LabState) → EndsBy s exp (over_of told) lab → HasEndedIn s pairs exp was now j k told new lab
  ended_in lab ended = record { end = h; goes = goes_in (λ outcome after. Finishes s h.swap h.finished.steps outcome after) end_works lab h.finished.outcome (ended_lab lab ended) h.all }

can_end_over : (s : LabState) (pairs : List (RunningSwap × Live)) (exp : List ℕ) (was now : Seen) (j k : Journal) (over : Over) (new : List Live) → HasTurnedToEnd the_texts s pairs exp was now j k (progress.Ended over) new → CanEnd s exp over.committed
can_end_over s pairs exp was now j k over new h =
    let told = h.finished.is_told in
    let a = subst (λ (x : Outcome). IfGoesOn x ((after : LabState) × Finishes s h.swap h.finished.steps x after × Working the_texts now.told k after (h.before ++ h.behind))) told.outcome_is h.all in
    let at_is : a.1.at.swap ≡ h.swap.swap = onward_swap s h.swap a.1.front a.1.at a.1.onward in (
      a.0,
      ended_as s a.1.at exp (ap (λ (p : SwapOf). p.name) at_is ∙ h.named) a.1.behind over h.finished.at.leg a.0
          (told.committed ∙ ap (λ (p : SwapOf). Rattle.swap_turns.specs.Legs.commits p h.finished.at.leg) (h.finished.swap_is ∙ sym at_is)) a.1.turn,
    )

pub can_end : (s : LabState) (pairs : List (RunningSwap × Live)) (exp : List ℕ) (was now : Seen) (j k : Journal) (told : Progress) (new : List Live) → HasTurnedToEnd the_texts s pairs exp was now j k told new → CanEndBy s exp (over_of told)
can_end s pairs exp was now j k progress.More new h = tt
can_end s pairs exp was now j k (progress.Trouble what) new h = tt
can_end s pairs exp was now j k (progress.Ended over) new h = can_end_over s pairs exp was now j k over new h
can_end s pairs exp was now j k (progress.Stuck what) new h = tt
can_end s pairs exp was now j k progress.Stopped new h = tt
