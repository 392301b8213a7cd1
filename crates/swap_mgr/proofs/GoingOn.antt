-- The manager goes on.
use Rattle.std.proofs.Common.{◌≡◌, List, Option, refl, subst}
use Rattle.std.specs.Prelude.{is_none}
use Rattle.lab_base.specs.Lists.{Has}
use Rattle.plant.specs.Told.{Told}
use Rattle.journal_disk.specs.declared.journal.Journal.{Journal}
use Rattle.records_model.specs.Labs.{LabState, Texts}
use Rattle.swap_txn.specs.declared.live.Live.{Live}
use Rattle.lab_base.specs.declared.what.What.TheVariants as whats
use Rattle.plant.specs.Seen.{Seen}
use Rattle.swap_turns.specs.Swaps.{Swap}
use Rattle.swap_turns.specs.Legs.{Leg, Forth, Undo, Settling, commits, why_of}
use Rattle.swap_turns.specs.Running.{OpenSwap, IsOpen, AtWork, IsRunning, Working}
use Rattle.swap_turns.specs.Telling.{IsProgress}
use Rattle.swap_turns.specs.Turning.{Outcome, More, TurnsBack, Ended, Stuck, Unwritten, Stopped, IfGoesOn}
use Rattle.swap_turns.specs.declared.progress.Progress.{Progress}
use Rattle.swap_turns.specs.declared.progress.Progress.TheVariants as progress
use Rattle.swap_mgr.specs.Managing.{Holds, IsPlain, IsManaging, GoesOnBy, HasTurned, HasTurnedToEnd}

module _ (t : Texts) (told : Option Told) (k : Journal) (new : List Live) (opens : List (OpenSwap × Live)) (holds : Holds new opens) where
  managing : (after : LabState) → Working t told k after opens → IsManaging told k new
  managing after working = record { texts = t; lab = after; opens = opens; working = working; holds = holds }

  pub by_outcome : (Is : Outcome → LabState → Type 0) (outcome : Outcome) → IfGoesOn outcome ((after : LabState) × Is outcome after × Working t told k after opens) → IfGoesOn outcome (IsManaging told k new)
  by_outcome Is More a = managing a.0 a.2
  by_outcome Is (TurnsBack why) a = managing a.0 a.2
  by_outcome Is (Ended leg) a = managing a.0 a.2
  by_outcome Is (Stuck trouble) a = managing a.0 a.2
  by_outcome Is Unwritten a = tt
  by_outcome Is Stopped a = tt

pub by_told : (P : Type 0) (o : OpenSwap) (p : Progress) (outcome : Outcome) → IsProgress o p outcome → IfGoesOn outcome P → GoesOnBy p P
by_told P o progress.More outcome is h = subst (λ w. IfGoesOn w P) is h
by_told P o (progress.Trouble what) outcome is h = subst (λ w. IfGoesOn w P) is.2 h
by_told P o (progress.Ended e) outcome is h = subst (λ w. IfGoesOn w P) is.outcome_is h
by_told P o (progress.Stuck (whats.Device name)) outcome is h = subst (λ w. IfGoesOn w P) is.2 h
by_told P o (progress.Stuck (whats.Late node)) outcome is h = subst (λ w. IfGoesOn w P) is.2 h
by_told P o (progress.Stuck (whats.Unlawful node from to)) outcome is h = subst (λ w. IfGoesOn w P) is.2 h
by_told P o (progress.Stuck whats.Journal) outcome is h = tt
by_told P o progress.Stopped outcome is h = tt

module _ (t : Texts) (s : LabState) (opens : List (OpenSwap × Live)) (exp : List Rattle.std.proofs.Common.ℕ) (was now : Seen) (j k : Journal) (p : Progress) (new : List Live) where
  pub turn_goes_on : HasTurned t s opens exp was now j k p new → GoesOnBy p (IsManaging now.told k new)
  turn_goes_on h = by_told (IsManaging now.told k new) h.swap p h.outcome h.is_told
      (by_outcome t now.told k new _ h.holds (λ outcome after. Rattle.swap_turns.specs.Turning.TurnSteps s h.swap h.steps outcome after) h.outcome h.all)

  pub end_goes_on : HasTurnedToEnd t s opens exp was now j k p new → GoesOnBy p (IsManaging now.told k new)
  end_goes_on h = by_told (IsManaging now.told k new) h.finished.at p h.finished.outcome h.finished.is_told
      (by_outcome t now.told k new _ h.holds (λ outcome after. Rattle.swap_turns.specs.Finishing.Finishes s h.swap h.finished.steps outcome after) h.finished.outcome h.all)

-- each is open still
pub all_stay : (t : Texts) (s u : LabState) (opens : List (OpenSwap × Live)) (was now : Seen) (j k : Journal) → Working t was.told j s opens → AtWork t now.told k u
    → ((q : OpenSwap) (x : Live) → Has opens (q, x) → IsOpen s q x → IsRunning t was.told s q → IsOpen u q x × IsRunning t now.told u q) → Working t now.told k u opens
all_stay t s u opens was now j k working work kept = record {
  work = work;
  differ = working.differ;
  each = λ q h. (kept q.0 q.1 h (working.each q h) (working.running q h)).0;
  running = λ q h. (kept q.0 q.1 h (working.each q h) (working.running q h)).1;
}

-- Commit ends it exactly where no trouble began its undo
pub by_why : (p : Swap) (leg : Leg) → IsPlain leg → commits p leg ≡ is_none (why_of leg)
by_why p Forth plain = refl
by_why p (Undo why) plain = refl
by_why p Settling plain = absurd plain
