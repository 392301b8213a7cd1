-- The state after an open swap that was turned to its end.
use Rattle.std.proofs.Common.{◌≡◌, ◌↔◌, ℕ, List, [], ◌++◌, Some, IsTrue, Ok, refl, sym, ap, ◌∙◌, subst}
use Rattle.plant.specs.Events.{Event}
use Rattle.plant.specs.Seen.{Seen}
use Rattle.journal_disk.specs.Standing.{limit_of}
use Rattle.records_model.specs.Labs.{LabState}
use Rattle.lab_state.specs.Texts.{the_texts}
use Rattle.swap_turns.specs.Finishing.{Finishes, FinishLeaves, IsFinishCaused, IsOver}
use Rattle.swap_turns.specs.Running.{OpenSwap as RunningSwap, Working}
use Rattle.swap_turns.specs.Swaps.{Swap as SwapOf, Moves}
use Rattle.swap_turns.specs.Lengths.{IsLonger}
use Rattle.swap_turns.specs.Turning.{Outcome, More, TurnsBack, Ended, Stuck, Unwritten, Stopped, IfGoesOn}
use Rattle.swap_turns.proofs.Closing.{closes_as}
use Rattle.swap_mgr.specs.Managing.{IsPlain}
use Rattle.swap_mgr.specs.Turns.{IsStop}
use Rattle.swap_turns.specs.declared.progress.Progress.{Progress}
use Rattle.script_text.specs.declared.reply.Reply.{Reply}
use Rattle.lab_core.specs.Breaks.{StartsAfter}
use Rattle.lab_core.specs.Controller.{Control, WorksWith}
use Rattle.lab_tasks.specs.Tasks.{Finish}
use Rattle.lab_judge.specs.Judge.{Is}
use Rattle.lab_core.specs.LabSteps.{IsOneOf, does, end_reply, end_session, is_told, turn_reply}
use Rattle.lab_core.specs.Obey.{start_of, Obeyed}
use Rattle.lab_core.specs.Sessions.{OpenSwap, Session, IsSince}
use Rattle.lab_core.specs.Swapping.{HasEndedIn, progress_answer}
use Rattle.lab_core.proofs.OpenSwaps.{Pair, Place, open_without, risen_by}
use Rattle.lab_core.proofs.PerformSwap.{IsCausedNow, IsCausedSince, Leads, by_outcome}
use Rattle.lab_core.proofs.Told.{Halts, IsAnswer, answered, halts_as, onward_plain}
use Rattle.lab_core.proofs.TurnOne.{apart, at, counted, end_caused, moves, one, plain, since, works_with}
use Rattle.lab_core.proofs.Obey.{IsDone}

-- what is told of a swap that is over
pub over_reply : (p : SwapOf) (outcome : Outcome) (reply : Reply) → IsOver outcome → turn_reply p outcome ≡ Some reply → end_reply p outcome ≡ Some reply
over_reply p More reply over is = absurd over
over_reply p (TurnsBack why) reply over is = absurd over
over_reply p (Ended leg) reply over is = is
over_reply p (Stuck trouble) reply over is = is
over_reply p Unwritten reply over is = is
over_reply p Stopped reply over is = is

-- AN OPEN SWAP that was turned to its end, and its place
module _ (before now : Seen) (old new : Control) (opens : List OpenSwap) (exp : List ℕ) (works : WorksWith before old opens) (told : Progress) (h : HasEndedIn old.lab works.pairs exp before now old.journal new.journal told new.swaps new.lab) where
  abbrev x : Pair
  x = (h.end.swap, h.end.state)

  abbrev pub place : Place h.end.before x.0 h.end.behind opens
  place = at before now old new opens exp works h.end.before h.end.behind x h.end.opens_are h.end.named

  abbrev pub end_one : IsOneOf opens exp
  end_one = one before now old new opens exp works h.end.before h.end.behind x h.end.opens_are h.end.named

  end_moves : Moves place.one.running.swap old.lab
  end_moves = moves before now old new opens exp works h.end.before h.end.behind x h.end.opens_are h.end.named

  pub end_since : IsSince before.faults.devices place.one
  end_since = since before now old new opens exp works h.end.before h.end.behind x h.end.opens_are h.end.named

  pub end_works : Working the_texts now.told new.journal new.lab (h.end.before ++ h.end.behind) → WorksWith now new (place.front ++ place.rest)
  end_works working = works_with before now old new opens exp works h.end.before h.end.behind x h.end.opens_are h.end.named h.end.finished.later [] [] refl (λ o none. absurd none) h.end.holds working

  pub ends_from : (outcome : Outcome) (steps : List Event) (lab : LabState) → Finishes old.lab h.end.swap steps outcome lab → Finishes old.lab place.one.running steps outcome lab
  ends_from outcome steps lab is = subst (λ (o : RunningSwap). Finishes old.lab o steps outcome lab) (sym place.running) is

  abbrev pub Goes : Outcome → Type 0
  Goes outcome = IfGoesOn outcome (Finishes old.lab h.end.swap h.end.finished.steps outcome new.lab × Working the_texts now.told new.journal new.lab (h.end.before ++ h.end.behind))

  -- the leg that ends is no settling
  plain_end : Goes h.end.finished.outcome → h.end.finished.outcome ≡ Ended h.end.finished.at.leg → IsPlain h.end.finished.at.leg
  plain_end goes is =
      let f = (subst Goes is goes).0 in
      subst IsPlain f.turn.1 (onward_plain old.lab h.end.swap f.front f.at (plain before now old new opens exp works h.end.before h.end.behind x h.end.opens_are h.end.named) f.onward)

  pub end_answer : (outcome : Outcome) → h.end.finished.outcome ≡ outcome → IsAnswer h.end.swap.swap outcome (progress_answer exp told)
  end_answer outcome is =
      let name : h.end.finished.at.swap.name ≡ exp = ap (λ (p : SwapOf). p.name) h.end.finished.swap_is ∙ h.end.named in
      subst (λ (p : SwapOf). IsAnswer p outcome (progress_answer exp told)) h.end.finished.swap_is
      (subst (λ (o : Outcome). IsAnswer h.end.finished.at.swap o (progress_answer exp told)) is (answered h.end.finished.at exp name told h.end.finished.outcome (plain_end h.goes) h.end.finished.is_told))

  pub end_halts : (Halts h.end.finished.outcome → IsStop told) × (IsStop told → Halts h.end.finished.outcome)
  end_halts = halts_as h.end.finished.at told h.end.finished.outcome h.end.finished.is_told

  -- its causes, since it was opened
  causes : (outcome : Outcome) → IsOver outcome → IsFinishCaused place.one.running outcome before now → IsCausedSince outcome place.one.devices before now
  causes More over cause = absurd over
  causes (TurnsBack why) over cause = absurd over
  causes (Ended leg) over cause = end_caused place.one leg before now h.end.finished.later.devices end_since cause
  causes (Stuck why) over cause = risen_by why place.one.devices before now end_since.later cause
  causes Unwritten over cause = cause
  causes Stopped over cause = tt

  pub cause_since : IsCausedSince h.end.finished.outcome place.one.devices before now
  cause_since = causes h.end.finished.outcome h.end.finished.over (subst (λ (o : RunningSwap). IsFinishCaused o h.end.finished.outcome before now) (sym place.running) h.end.finished.cause)

  causes_now : (outcome : Outcome) → IsOver outcome → IsFinishCaused place.one.running outcome before now → IsCausedNow outcome before now
  causes_now More over cause = tt
  causes_now (TurnsBack why) over cause = absurd over
  causes_now (Ended leg) over cause = tt
  causes_now (Stuck why) over cause = cause
  causes_now Unwritten over cause = tt
  causes_now Stopped over cause = tt

  pub cause_now : IsCausedNow h.end.finished.outcome before now
  cause_now = causes_now h.end.finished.outcome h.end.finished.over (subst (λ (o : RunningSwap). IsFinishCaused o h.end.finished.outcome before now) (sym place.running) h.end.finished.cause)

  module _ (devices : ℕ) (limit : limit_of new.journal ≡ limit_of old.journal) (stops : IsStop told ↔ IsTrue now.stopped) where
    abbrev EndIs : Outcome → List Event → LabState → Type 0
    EndIs outcome steps lab = Finishes old.lab place.one.running steps outcome lab

    abbrev end_to : Outcome → List OpenSwap
    end_to outcome = place.front ++ place.rest

    end_done : (outcome : Outcome) (lab : LabState) (behind : List Event) (reply : Reply) (session : Session) → EndIs outcome h.end.finished.steps lab → StartsAfter outcome behind → turn_reply place.one.running.swap outcome ≡ Some reply → session ≡ end_session (end_to outcome) outcome
        → IsDone (Is (Ok (Finish exp))) (start_of devices old opens) (h.end.finished.steps ++ behind) (Some reply) lab session
    end_done outcome lab behind reply session is starts reply_is session_is =
        does (Ok (Finish exp)) refl
        (record { one = end_one; moves = end_moves; outcome = outcome; steps = h.end.finished.steps; behind = behind; own_is = refl; finishes = is; answered = is_told starts (sym (over_reply place.one.running.swap outcome reply is.over reply_is)) session_is })

    abbrev EndLeads : Outcome → Type 0
    EndLeads outcome = Leads devices before now (Is (Ok (Finish exp))) old new opens end_to place.one.running.swap exp h.end.finished.steps h.end.finished.told h.end.finished.sound h.end.finished.later limit
        (λ outcome. (open_without opens place.front place.one place.rest place.are, λ gone q has. apart before now old new opens exp works h.end.before h.end.behind x h.end.opens_are h.end.named q has)) EndIs end_done outcome

    leads_by : (outcome : Outcome) → IsOver outcome → Goes outcome → IfGoesOn outcome (IsLonger old.journal new.journal h.end.finished.steps) → FinishLeaves the_texts old.lab h.end.swap before now new.journal h.end.finished.steps outcome → EndLeads outcome
    leads_by More over goes longer leaves = absurd over
    leads_by (TurnsBack why) over goes longer leaves = absurd over
    leads_by (Ended leg) over goes longer leaves = (ends_from (Ended leg) h.end.finished.steps new.lab goes.0, end_works goes.1, longer)
    leads_by (Stuck why) over goes longer leaves = (ends_from (Stuck why) h.end.finished.steps new.lab goes.0, end_works goes.1, longer)
    leads_by Unwritten over goes longer leaves = closes_as the_texts before.told h.end.finished.steps _ _ (λ lab all. ends_from Unwritten h.end.finished.steps lab all) leaves
    leads_by Stopped over goes longer leaves = closes_as the_texts before.told h.end.finished.steps _ _ (λ lab all. ends_from Stopped h.end.finished.steps lab all) leaves

    -- IT IS GONE, and each other is as it was
    pub ended : Obeyed devices before now (Is (Ok (Finish exp))) old new opens (Some exp) (progress_answer exp told)
    ended =
        by_outcome devices before now (Is (Ok (Finish exp))) old new opens end_to place.one.running.swap exp h.end.finished.steps h.end.finished.told h.end.finished.sound h.end.finished.later limit
        (λ outcome. (open_without opens place.front place.one place.rest place.are, λ gone q has. apart before now old new opens exp works h.end.before h.end.behind x h.end.opens_are h.end.named q has)) EndIs end_done h.end.finished.outcome (leads_by h.end.finished.outcome h.end.finished.over h.goes h.end.finished.longer h.end.finished.leaves)
        (subst (λ (n : ℕ). IsCausedSince h.end.finished.outcome n before now) (sym (counted before now old new opens exp works h.end.before h.end.behind x h.end.opens_are h.end.named devices)) cause_since) cause_now
        (λ halted. stops.0 (end_halts.0 halted)) (λ stopped. end_halts.1 (stops.1 stopped)) (progress_answer exp told)
        (subst (λ (o : RunningSwap). IsAnswer o.swap h.end.finished.outcome (progress_answer exp told)) (sym place.running) (end_answer h.end.finished.outcome refl))
