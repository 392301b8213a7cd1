-- The settling of one experiment.
use Rattle.std.proofs.Common.{◌≡◌, ◌↔◌, ℕ, Bool, true, false, List, Option, Some, None, Result, Ok, Err, refl, sym, ap, ◌∙◌, subst, arith}
use Rattle.std.specs.Prelude.{is_none, is_some, IsErrOf, IsTrue}
use Rattle.std.proofs.lemmas.Option.{same_Some}
use Rattle.lab_base.specs.Lists.{Has}
use Rattle.lab_base.specs.declared.what.What.TheVariants as whats
use Rattle.phys_lab.specs.Labs.{Lab}
use Rattle.virt_topo.specs.declared.experiment.Experiment.{Experiment}
use Rattle.virt_topo.specs.declared.experiment.Phase.TheVariants.{Moving}
use Rattle.virt_topo.specs.declared.mapping.Mapped.{Mapped}
use Rattle.plant.specs.Events.{Event}
use Rattle.plant.specs.Seen.{Seen}
use Rattle.journal_disk.specs.declared.journal.Journal.{Journal}
use Rattle.lab_model.specs.Claims.{Old, New, claimed_in}
use Rattle.lab_model.specs.Courses.{commands, undo, Trouble}
use Rattle.records_model.specs.Labs.{LabState, Sane, Texts, find, lab_in, moved}
use Rattle.records_model.proofs.Swaps.{found_in}
use Rattle.lab_state.specs.Changes.{ending}
use Rattle.swap_txn.specs.declared.ended.Ended.{Ended as Over}
use Rattle.swap_txn.specs.declared.live.Live.{Live}
use Rattle.swap_txn.specs.Turns.{begun_again}
use Rattle.swap_turns.specs.Beginning.{settling}
use Rattle.swap_turns.specs.Causes.{IsLater}
use Rattle.swap_turns.specs.declared.progress.Progress.{Progress}
use Rattle.swap_turns.specs.declared.progress.Progress.TheVariants.{More, Trouble as Troubled, Ended, Stuck, Stopped}
use Rattle.swap_turns.specs.Finishing.{Onward, along, back, Finishes, FinishGoesOn, FinishLeaves, IsFinishCaused, HasFinished, IsOnWay, IsOver}
use Rattle.swap_turns.specs.Lengths.{IsLonger}
use Rattle.swap_turns.specs.Legs.{Forth, Settling, commits, last_move, last_move_by, inside_by, why_of}
use Rattle.swap_turns.specs.Running.{OpenSwap, AtWork}
use Rattle.swap_turns.specs.Settling.{LeavesLab, OneLeaves, HasSettledOne}
use Rattle.swap_turns.specs.Swaps.{Swap, Moves}
use Rattle.swap_turns.specs.Telling.{IsProgress, IsStop, over_of}
use Rattle.swap_turns.specs.Turning.{Outcome}
use Rattle.swap_turns.specs.Turning as turning
use Rattle.swap_turns.proofs.Beginning.{settling_open, runs_from_now}
use Rattle.swap_turns.proofs.Courses.{can_end}
use Rattle.swap_turns.proofs.Finishing.{way_starts}
use Rattle.swap_turns.proofs.Last.{gives_by, state_by}
use Rattle.recovery.specs.declared.fault.SettleFault.{SettleFault}
use Rattle.recovery.specs.declared.fault.SettleFault.TheVariants as faults
use Rattle.recovery.specs.declared.one.One.{One}
use Rattle.recovery.specs.declared.one.One.TheVariants as one
use Rattle.recovery.specs.One.{SuitsIf, EndsBy, CanEndBy, IsFinishedAs, IsAnswerOf, IsOverAs, settles_in, side_of}

-- what the experiment claims suits the lab
pub suits_by : (s : LabState) (lab : Lab) (exp : List ℕ) (e : Experiment) (old new : Option Mapped) → Sane s → s.lab ≡ Some lab → find exp s.experiments ≡ Some e → e.phase ≡ Moving old new → SuitsIf lab old × SuitsIf lab new
suits_by s lab exp e old new sane is found moving = subst (λ l. SuitsIf (lab_in l) old × SuitsIf (lab_in l) new) is (
  by_old old moving,
  by_new new moving,
)
  where
    in_e : Has s.experiments e
    in_e = found_in exp s.experiments e found

    by_old : (o : Option Mapped) → e.phase ≡ Moving o new → SuitsIf (lab_in s.lab) o
    by_old None m = tt
    by_old (Some x) m = sane.holding.fits e Old x in_e (ap (λ p. claimed_in e.wiring p Old) m)

    by_new : (o : Option Mapped) → e.phase ≡ Moving old o → SuitsIf (lab_in s.lab) o
    by_new None m = tt
    by_new (Some x) m = sane.holding.fits e New x in_e (ap (λ p. claimed_in e.wiring p New) m)

-- it is on its way
pub way_of : (t : Texts) (s : LabState) (now : Seen) (j : Journal) (p : Swap) (state : Live) → AtWork t now.told j s → Moves p s
    → state ≡ begun_again p.name (commands (lab_in s.lab) p.old p.new) (undo (lab_in s.lab) p.old p.new) (is_some p.old) (is_none p.new) → IsOnWay t s (settling p) now now j j state
way_of t s now j p state work moves is = way_starts t s (settling p) now j state work (settling_open s p state moves is) (runs_from_now t now.told j s p Settling work moves)

-- a settling stays one
pub leg_is : (s : LabState) (p : Swap) (steps : List Event) (at : OpenSwap) → Onward s (settling p) steps at → (at.swap ≡ p) × (at.leg ≡ Settling)
leg_is s p steps at (along is) = (ap (λ x. x.swap) is, ap (λ x. x.leg) is)
leg_is s p steps at (back why front course is_forth has cut is steps_are) = absurd (not_forth is_forth)
  where
    not_forth : Settling ≡ Forth → ⊥
    not_forth same = cc

-- the last record says the end of the move
as_ending : (s : LabState) (name exp : List ℕ) (commit committed : Bool) (after : LabState) → name ≡ exp → committed ≡ commit → moved s (last_move_by commit name) ≡ Some after → moved s (ending exp committed) ≡ Some after
as_ending s name exp true committed after named is gives = ap (λ b. moved s (ending exp b)) is ∙ ap (λ n. moved s (ending n true)) (sym named) ∙ gives
as_ending s name exp false committed after named is gives = ap (λ b. moved s (ending exp b)) is ∙ ap (λ n. moved s (ending n false)) (sym named) ∙ gives

module _ (t : Texts) (s : LabState) (exp : List ℕ) (p : Swap) (named : p.name ≡ exp) (before now : Seen) (j k : Journal) where
  abbrev HasEnded : Over → Type 0
  HasEnded ended = HasFinished t s (settling p) before now j k (λ at outcome. IsProgress at (Ended ended) outcome)

  -- WHICH RECORD ENDED IT
  module _ (ended : Over) (f : HasEnded ended) where
    goes_on : FinishGoesOn t s (settling p) before now k f.steps (turning.Ended f.at.leg)
    goes_on = subst (λ o. FinishLeaves t s (settling p) before now k f.steps o) f.is_told.outcome_is f.leaves

    at_end : (goes_on.is.at.swap ≡ p) × (goes_on.is.at.leg ≡ Settling)
    at_end = leg_is s p goes_on.is.front goes_on.is.at goes_on.is.onward

    settles : f.at.leg ≡ Settling
    settles = sym goes_on.is.turn.1 ∙ at_end.1

    outcome_is : f.outcome ≡ turning.Ended Settling
    outcome_is = f.is_told.outcome_is ∙ ap turning.Ended settles

    committed_is : ended.committed ≡ is_none p.new
    committed_is = f.is_told.committed ∙ ap (λ l. commits f.at.swap l) settles ∙ ap (λ q. commits q Settling) f.swap_is

    inside_is : ended.inside ≡ settles_in p
    inside_is = f.is_told.inside ∙ ap (λ l. inside_by f.at.swap (commits f.at.swap l)) settles ∙ ap (λ q. inside_by q (commits q Settling)) f.swap_is

    -- so the lab moves
    gives : (x : LabState) → Finishes s (settling p) f.steps (turning.Ended Settling) x → moved s (ending exp ended.committed) ≡ Some x
    gives x g =
        let at = leg_is s p g.front g.at g.onward in
        as_ending s p.name exp (is_none p.new) ended.committed x named committed_is
        (subst (λ q. moved s (last_move q Settling) ≡ Some x) at.0 g.turn.0.1.moves)

  -- its last record can follow
  pub can_end_by : Sane s → Moves p s → (end : Progress) → HasFinished t s (settling p) before now j k (λ at outcome. IsProgress at end outcome) → CanEndBy s exp (over_of end)
  can_end_by sane moves (Ended ended) f =
      let can = can_end p Settling moves.is_swap tt in
      (state_by p s moves.exp (is_none p.new), as_ending s p.name exp (is_none p.new) ended.committed _ named (committed_is ended f) (gives_by (is_none p.new) p s sane moves can))
  can_end_by sane moves More f = tt
  can_end_by sane moves (Troubled what) f = tt
  can_end_by sane moves (Stuck what) f = tt
  can_end_by sane moves Stopped f = tt

  module _ (after : LabState) where
    module _ (Told : OpenSwap → Outcome → Type 0) (f : HasFinished t s (settling p) before now j k Told) where
      over_by : (outcome : Outcome) → f.outcome ≡ outcome → OneLeaves t s p before now k f.steps outcome after → HasSettledOne t s p before now j k outcome after
      over_by outcome is leaves = record {
        steps = f.steps;
        told = f.told;
        leaves = leaves;
        sound = f.sound;
        later = f.later;
        cause = subst (λ o. IsFinishCaused (settling p) o before now) is f.cause;
        longer = subst (λ o. turning.IfGoesOn o (IsLonger j k f.steps)) is f.longer;
      }

      leaves_as : (outcome : Outcome) → f.outcome ≡ outcome → FinishLeaves t s (settling p) before now k f.steps outcome
      leaves_as outcome is = subst (λ o. FinishLeaves t s (settling p) before now k f.steps o) is f.leaves

      left : (outcome : Outcome) (g : FinishGoesOn t s (settling p) before now k f.steps outcome) → g.after ≡ after → LeavesLab t s p before now k f.steps outcome after
      left outcome g is = subst (λ x. LeavesLab t s p before now k f.steps outcome x) is (record { is = g.is; work = g.work; others = g.others })

      by_stuck : (trouble : Trouble) → f.outcome ≡ turning.Stuck trouble → after ≡ s → HasSettledOne t s p before now j k (turning.Stuck trouble) after
      by_stuck trouble is same =
          let g : FinishGoesOn t s (settling p) before now k f.steps (turning.Stuck trouble) = leaves_as (turning.Stuck trouble) is in
          over_by (turning.Stuck trouble) is (left (turning.Stuck trouble) g (g.is.turn.3 ∙ sym same))

    by_ended : (ended : Over) → HasEnded ended → moved s (ending exp ended.committed) ≡ Some after → IsFinishedAs t s p before now j k after (Ended ended)
    by_ended ended f ends =
        let is = outcome_is ended f in
        let g : FinishGoesOn t s (settling p) before now k f.steps (turning.Ended Settling) = leaves_as _ f (turning.Ended Settling) is in (
          turning.Ended Settling,
          record {
            exp = f.is_told.exp ∙ ap (λ q. q.name) f.swap_is;
            inside = inside_is ended f;
            committed = committed_is ended f;
            why = f.is_told.why ∙ ap (λ l. why_of l) (settles ended f);
            outcome_is = refl;
          },
          over_by _ f (turning.Ended Settling) is (left _ f (turning.Ended Settling) g (same_Some g.after after (sym (gives ended f g.after g.is) ∙ ends))),
        )

    -- IT IS OVER, for the lab after it
    pub over_as : (end : Progress) → HasFinished t s (settling p) before now j k (λ at outcome. IsProgress at end outcome) → EndsBy s exp (over_of end) after → IsFinishedAs t s p before now j k after end
    over_as (Ended ended) f ends = by_ended ended f ends
    over_as More f ends = absurd (subst IsOver f.is_told f.over)
    over_as (Troubled what) f ends = absurd (subst IsOver f.is_told.2 f.over)
    over_as (Stuck (whats.Device name)) f ends = let told = f.is_told in (turning.Stuck told.0, (told.0, told.1, refl), by_stuck _ f told.0 told.2 ends)
    over_as (Stuck (whats.Late node)) f ends = let told = f.is_told in (turning.Stuck told.0, (told.0, told.1, refl), by_stuck _ f told.0 told.2 ends)
    over_as (Stuck (whats.Unlawful node from to)) f ends = let told = f.is_told in (turning.Stuck told.0, (told.0, told.1, refl), by_stuck _ f told.0 told.2 ends)
    over_as (Stuck whats.Journal) f ends = (turning.Unwritten, refl, over_by _ f turning.Unwritten f.is_told (leaves_as _ f turning.Unwritten f.is_told))
    over_as Stopped f ends = (turning.Stopped, refl, over_by _ f turning.Stopped f.is_told (leaves_as _ f turning.Stopped f.is_told))

module _ (t : Texts) (s : LabState) (p : Swap) (before now : Seen) (j k : Journal) (after : LabState) where
  abbrev Is : Result One SettleFault → Type 0
  Is result = IsOverAs t s p before now j k after result

  settled_as : (outcome wanted : Outcome) → outcome ≡ wanted → HasSettledOne t s p before now j k outcome after → HasSettledOne t s p before now j k wanted after
  settled_as outcome wanted is h = subst (λ o. HasSettledOne t s p before now j k o after) is h

  by_side : (inside : Bool) → inside ≡ settles_in p → HasSettledOne t s p before now j k (turning.Ended Settling) after → Is (Ok (side_of inside))
  by_side true is h = (sym is, h)
  by_side false is h = (sym is, h)

  -- THE ANSWER tells how it is over
  pub answered_as : (end : Progress) (result : Result One SettleFault) → IsFinishedAs t s p before now j k after end → IsAnswerOf end result → Is result
  answered_as (Ended ended) result h is = subst Is (sym is) (by_side ended.inside h.1.inside (settled_as h.0 _ h.1.outcome_is h.2))
  answered_as More result h is = absurd is
  answered_as (Troubled what) result h is = absurd is
  answered_as (Stuck (whats.Device name)) result h is = subst Is (sym is) (h.1.0, h.1.1, settled_as h.0 _ h.1.2 h.2)
  answered_as (Stuck (whats.Late node)) result h is = subst Is (sym is) (h.1.0, h.1.1, settled_as h.0 _ h.1.2 h.2)
  answered_as (Stuck (whats.Unlawful node from to)) result h is = subst Is (sym is) (h.1.0, h.1.1, settled_as h.0 _ h.1.2 h.2)
  answered_as (Stuck whats.Journal) result h is = subst Is (sym is) (settled_as h.0 _ h.1 h.2)
  answered_as Stopped result h is = subst Is (sym is) (settled_as h.0 _ h.1 h.2)

-- errors differ
ok_not : {X E : Type 0} (x : X) (e : E) → Ok x ≡ Err e → ⊥
ok_not x e same = cc

plant_not_stopped : {X : Type 0} (r : Result X SettleFault) → r ≡ Err faults.Plant → r ≡ Err faults.Stopped → ⊥
plant_not_stopped r is same = cc

plant_not_memory : {X : Type 0} (r : Result X SettleFault) → r ≡ Err faults.Plant → r ≡ Err faults.Memory → ⊥
plant_not_memory r is same = cc

stopped_not_memory : {X : Type 0} (r : Result X SettleFault) → r ≡ Err faults.Stopped → r ≡ Err faults.Memory → ⊥
stopped_not_memory r is same = cc

-- it stopped exactly where the answer says so
pub answer_stops : (end : Progress) (result : Result One SettleFault) → IsAnswerOf end result → IsStop end ↔ IsErrOf result faults.Stopped
answer_stops (Ended ended) result is = (λ h. absurd h, λ h. ok_not _ _ (sym is ∙ h))
answer_stops More result is = absurd is
answer_stops (Troubled what) result is = absurd is
answer_stops (Stuck (whats.Device name)) result is = (λ h. absurd h, λ h. ok_not _ _ (sym is ∙ h))
answer_stops (Stuck (whats.Late node)) result is = (λ h. absurd h, λ h. ok_not _ _ (sym is ∙ h))
answer_stops (Stuck (whats.Unlawful node from to)) result is = (λ h. absurd h, λ h. ok_not _ _ (sym is ∙ h))
answer_stops (Stuck whats.Journal) result is = (λ h. absurd h, λ h. plant_not_stopped result is h)
answer_stops Stopped result is = (λ h. is, λ h. tt)

-- memory is not wanting after the plan
pub answer_of_memory : (end : Progress) (result : Result One SettleFault) → IsAnswerOf end result → IsErrOf result faults.Memory → ⊥
answer_of_memory (Ended ended) result is h = ok_not _ _ (sym is ∙ h)
answer_of_memory More result is h = absurd is
answer_of_memory (Troubled what) result is h = absurd is
answer_of_memory (Stuck (whats.Device name)) result is h = ok_not _ _ (sym is ∙ h)
answer_of_memory (Stuck (whats.Late node)) result is h = ok_not _ _ (sym is ∙ h)
answer_of_memory (Stuck (whats.Unlawful node from to)) result is h = ok_not _ _ (sym is ∙ h)
answer_of_memory (Stuck whats.Journal) result is h = plant_not_memory result is h
answer_of_memory Stopped result is h = stopped_not_memory result is h

-- counts do not fall
pub later_as : (t : Texts) (s : LabState) (p : Swap) (before now : Seen) (j k : Journal) (after : LabState) (result : Result One SettleFault) → IsOverAs t s p before now j k after result → (IsErrOf result faults.Memory → now ≡ before) → IsLater before now
later_as t s p before now j k after (Ok one.Out) h same = h.1.later
later_as t s p before now j k after (Ok one.In) h same = h.1.later
later_as t s p before now j k after (Ok (one.Stuck what)) h same = h.2.later
later_as t s p before now j k after (Err faults.Plant) h same = h.later
later_as t s p before now j k after (Err faults.Stopped) h same = h.later
later_as t s p before now j k after (Err faults.Memory) h same = subst (λ x. IsLater before x) (sym (same refl)) (record { disk = omega arith; devices = omega arith })

pub later_same : (was now : Seen) → now ≡ was → IsLater was now
later_same was now is = subst (λ x. IsLater was x) (sym is) (record { disk = omega arith; devices = omega arith })

-- A STOP is told exactly where the plant is stopped: it was not before
false_not_true : (b : Bool) → b ≡ false → b ≡ true → ⊥
false_not_true b was is = let same : false ≡ true = sym was ∙ is in cc same

pub none_stops : {X : Type 0} (x : X) (b : Bool) → b ≡ false → IsErrOf (Ok x) faults.Stopped ↔ IsTrue b
none_stops x b was = (λ h. absurd (ok_not x faults.Stopped h), λ h. absurd (false_not_true b was h))

pub memory_stops : {X : Type 0} (r : Result X SettleFault) (was now : Seen) → r ≡ Err faults.Memory → now ≡ was → was.stopped ≡ false → IsErrOf r faults.Stopped ↔ IsTrue now.stopped
memory_stops r was now is same running = (λ h. absurd (stopped_not_memory r h is), λ h. absurd (false_not_true was.stopped running (sym (ap (λ (x : Seen). x.stopped) same) ∙ h)))

err_is : {X : Type 0} (r : Result X SettleFault) (e f : SettleFault) → r ≡ Err e → r ≡ Err f → e ≡ f
err_is r e f is same = cc

pub err_stops : {X Y : Type 0} (r : Result X SettleFault) (q : Result Y SettleFault) (e : SettleFault) (b : Bool) → r ≡ Err e → q ≡ Err e → IsErrOf r faults.Stopped ↔ IsTrue b → IsErrOf q faults.Stopped ↔ IsTrue b
err_stops r q e b r_is q_is told = (
  λ h. told.0 (r_is ∙ ap (λ x. Err x) (err_is q e faults.Stopped q_is h)),
  λ h. q_is ∙ ap (λ x. Err x) (err_is r e faults.Stopped r_is (told.1 h)),
)
