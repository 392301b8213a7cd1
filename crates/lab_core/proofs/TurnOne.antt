-- The state after a turn of an open swap, and after turning it to its end.
use Rattle.std.proofs.Common.{◌≡◌, ◌≢◌, ◌↔◌, inl, inr, ◌≤◌, ℕ, List, ◌∷◌, ◌++◌, Option, Some, IsTrue, Ok, refl, sym, ap, ◌∙◌, subst}
use Rattle.std.proofs.lemmas.List.{map-append}
use Rattle.lab_base.specs.Lists.{Has, listed}
use Rattle.lab_base.proofs.Members.{Has-append, Has-right}
use Rattle.plant.specs.Events.{Event}
use Rattle.plant.specs.Seen.{Seen}
use Rattle.journal_disk.specs.Standing.{limit_of}
use Rattle.records_model.specs.Labs.{LabState}
use Rattle.lab_state.specs.Texts.{the_texts}
use Rattle.swap_turns.specs.Causes.{IsLater}
use Rattle.swap_turns.specs.Finishing.{WasCaused}
use Rattle.swap_turns.specs.Lengths.{IsLonger}
use Rattle.swap_turns.specs.Legs.{Leg, Forth, Undo, Settling}
use Rattle.swap_turns.specs.Running.{OpenSwap as RunningSwap, Working}
use Rattle.swap_turns.specs.Swaps.{Moves}
use Rattle.swap_turns.specs.Turning.{Outcome, More, TurnsBack, Ended, Stuck, Unwritten, Stopped, IfGoesOn, TurnSteps, Leaves, IsOutcomeCaused, open_after}
use Rattle.swap_mgr.specs.Managing.{Holds, IsPlain}
use Rattle.swap_mgr.specs.Turns.{IsStop}
use Rattle.swap_turns.specs.declared.progress.Progress.{Progress}
use Rattle.script_text.specs.declared.reply.Reply.{Reply}
use Rattle.lab_core.specs.Breaks.{StartsAfter}
use Rattle.lab_core.specs.Controller.{Control, WorksWith}
use Rattle.lab_tasks.specs.Tasks.{Turn}
use Rattle.lab_judge.specs.Judge.{Is}
use Rattle.lab_core.specs.LabSteps.{IsOneOf, does, end_session, is_told, turn_reply, turned_on}
use Rattle.lab_core.specs.Obey.{start_of, Obeyed}
use Rattle.lab_core.specs.Sessions.{OpenSwap, Session, HasRisenBy, IsSince, counted_from, devices_if, name_in, open_at}
use Rattle.lab_core.specs.Swapping.{HasTurnedIn, progress_answer}
use Rattle.lab_core.proofs.OpenSwaps.{Pair, Place, has_front, has_one, has_rest, open_at_one, open_turned, others_before, others_after, place_of, risen_by, risen_later, running_of, since_later, since_turned, swaps_in, turned_running}
use Rattle.lab_core.proofs.PerformSwap.{HasEnded, IsCausedNow, IsCausedSince, LeavesOpen, by_outcome}
use Rattle.lab_core.proofs.Told.{Halts, IsAnswer, answered, halts_as}
use Rattle.lab_core.proofs.Obey.{IsDone}

-- a turn has its causes, and so has a leg that ends, since the swap was opened
turn_caused : (o : OpenSwap) (leg : Leg) (was now : Seen) → was.faults.devices ≤ now.faults.devices → IsSince was.faults.devices o → o.running.leg ≡ leg → IsCausedSince (Ended leg) o.devices was now
turn_caused o Forth was now later s is = tt
turn_caused o (Undo why) was now later s is = risen_later (Undo why) o.devices was.faults.devices now.faults.devices later (subst (λ (l : Leg). HasRisenBy l o.devices was.faults.devices) is s.caused)
turn_caused o Settling was now later s is = tt

pub end_caused : (o : OpenSwap) (leg : Leg) (was now : Seen) → was.faults.devices ≤ now.faults.devices → IsSince was.faults.devices o → WasCaused o.running leg was now → IsCausedSince (Ended leg) o.devices was now
end_caused o Forth was now later s cause = tt
end_caused o (Undo why) was now later s (inl is) = turn_caused o (Undo why) was now later s is
end_caused o (Undo why) was now later s (inr cause) = risen_by why o.devices was now s.later cause
end_caused o Settling was now later s cause = tt

-- THE OPEN SWAP of that name, and its place
module _ (before now : Seen) (old new : Control) (opens : List OpenSwap) (exp : List ℕ) (works : WorksWith before old opens) (a b : List Pair) (x : Pair) (pairs_are : works.pairs ≡ a ++ x ∷ b) (named : x.0.swap.name ≡ exp) where
  abbrev pub at : Place a x.0 b opens
  at = place_of works.pairs a x b opens pairs_are works.are

  abbrev pub one : IsOneOf opens exp
  one = record { front = at.front; swap = at.one; rest = at.rest; are = at.are; name = ap (λ (r : RunningSwap). r.swap.name) at.running ∙ named }

  -- its experiment moves so
  pub moves : Moves at.one.running.swap old.lab
  moves = subst (λ (r : RunningSwap). Moves r.swap old.lab) (sym at.running) (works.working.each x (subst (λ (l : List Pair). Has l x) (sym pairs_are) (Has-right a (x ∷ b) x (inl refl)))).moves

  pub since : IsSince before.faults.devices at.one
  since = works.since at.one (has_one opens at.front at.one at.rest at.are)

  -- each of the others has another name
  pub apart : (q : OpenSwap) → Has (at.front ++ at.rest) q → name_in q ≢ at.one.running.swap.name
  apart q has = elim (Has-append at.front at.rest q has) [
    | inl in_front ↦ others_before works.pairs a x b opens at pairs_are works.working.differ q in_front
    | inr in_rest ↦ others_after works.pairs a x b opens at pairs_are works.working.differ q in_rest
  ]

  pub counted : (devices : ℕ) → counted_from opens (Some exp) devices ≡ at.one.devices
  counted devices =
      let apart = others_before works.pairs a x b opens at pairs_are works.working.differ in
      ap (λ (o : Option OpenSwap). devices_if o devices) (ap (λ (l : List OpenSwap). open_at exp l) at.are ∙ open_at_one exp at.front at.one at.rest (λ q has same. apart q has (same ∙ sym one.name)) one.name)

  pub plain : IsPlain x.0.leg
  plain = works.holds.plain x (subst (λ (l : List Pair). Has l x) (sym pairs_are) (Has-right a (x ∷ b) x (inl refl)))

  -- with the others, after it
  module _ (later : IsLater before now) (next : List Pair) (turned : List OpenSwap) (same : swaps_in next ≡ running_of turned) (since_then : (o : OpenSwap) → Has turned o → IsSince now.faults.devices o)
      (holds : Holds new.swaps (a ++ (next ++ b))) (working : Working the_texts now.told new.journal new.lab (a ++ (next ++ b))) where
    are_then : swaps_in (a ++ (next ++ b)) ≡ running_of (at.front ++ (turned ++ at.rest))
    are_then =
        map-append (λ (q : Pair). q.0) a (next ++ b)
        ∙ (λ i. sym at.before i ++ (map-append (λ (q : Pair). q.0) next b ∙ (λ j. same j ++ sym at.behind j) ∙ sym (map-append (λ (o : OpenSwap). o.running) turned at.rest)) i)
        ∙ sym (map-append (λ (o : OpenSwap). o.running) at.front (turned ++ at.rest))

    since_all : (o : OpenSwap) → Has (at.front ++ (turned ++ at.rest)) o → IsSince now.faults.devices o
    since_all o has = elim (Has-append at.front (turned ++ at.rest) o has) [
      | inl in_front ↦ since_later o before.faults.devices now.faults.devices later.devices (works.since o (has_front opens at.front at.one at.rest at.are o in_front))
      | inr behind ↦ elim (Has-append turned at.rest o behind) [
        | inl here ↦ since_then o here
        | inr in_rest ↦ since_later o before.faults.devices now.faults.devices later.devices (works.since o (has_rest opens at.front at.one at.rest at.are o in_rest))
      ]
    ]

    pub works_with : WorksWith now new (at.front ++ (turned ++ at.rest))
    works_with = record { pairs = a ++ (next ++ b); are = are_then; working = working; holds = holds; since = since_all }

-- A TURN
module _ (devices : ℕ) (before now : Seen) (old new : Control) (opens : List OpenSwap) (exp : List ℕ) (works : WorksWith before old opens) (told : Progress) (h : HasTurnedIn old.lab works.pairs exp before now old.journal new.journal told new.swaps new.lab)
    (limit : limit_of new.journal ≡ limit_of old.journal) (stops : IsStop told ↔ IsTrue now.stopped) where
  abbrev x : Pair
  x = (h.turn.swap, h.turn.state)

  abbrev place : Place h.turn.before x.0 h.turn.behind opens
  place = at before now old new opens exp works h.turn.before h.turn.behind x h.turn.opens_are h.turn.named

  abbrev turn_one : IsOneOf opens exp
  turn_one = one before now old new opens exp works h.turn.before h.turn.behind x h.turn.opens_are h.turn.named

  turn_moves : Moves place.one.running.swap old.lab
  turn_moves = moves before now old new opens exp works h.turn.before h.turn.behind x h.turn.opens_are h.turn.named

  turn_since : IsSince before.faults.devices place.one
  turn_since = since before now old new opens exp works h.turn.before h.turn.behind x h.turn.opens_are h.turn.named

  abbrev turn_to : Outcome → List OpenSwap
  turn_to outcome = place.front ++ (turned_on place.one h.turn.steps outcome ++ place.rest)

  abbrev TurnIs : Outcome → List Event → LabState → Type 0
  TurnIs outcome steps lab = TurnSteps old.lab place.one.running steps outcome lab

  turn_leaves : (outcome : Outcome) → LeavesOpen place.one.running.swap.name outcome opens (turn_to outcome)
  turn_leaves outcome = (open_turned opens place.front place.one place.rest place.are h.turn.steps outcome, by outcome)
    where
      by : (outcome : Outcome) → HasEnded outcome → (q : OpenSwap) → Has (turn_to outcome) q → name_in q ≢ place.one.running.swap.name
      by (Ended leg) ended q has = apart before now old new opens exp works h.turn.before h.turn.behind x h.turn.opens_are h.turn.named q has
      by (Stuck why) ended q has = apart before now old new opens exp works h.turn.before h.turn.behind x h.turn.opens_are h.turn.named q has
      by outcome ended q has = absurd ended

  turn_done : (outcome : Outcome) (lab : LabState) (behind : List Event) (reply : Reply) (session : Session) → TurnIs outcome h.turn.steps lab → StartsAfter outcome behind → turn_reply place.one.running.swap outcome ≡ Some reply → session ≡ end_session (turn_to outcome) outcome
      → IsDone (Is (Ok (Turn exp))) (start_of devices old opens) (h.turn.steps ++ behind) (Some reply) lab session
  turn_done outcome lab behind reply session is starts reply_is session_is =
      does (Ok (Turn exp)) refl (record { one = turn_one; moves = turn_moves; outcome = outcome; steps = h.turn.steps; behind = behind; own_is = refl; turn = is; answered = is_told starts (sym reply_is) session_is })

  steps_as : (outcome : Outcome) (steps : List Event) (lab : LabState) → TurnSteps old.lab h.turn.swap steps outcome lab → TurnIs outcome steps lab
  steps_as outcome steps lab is = subst (λ (o : RunningSwap). TurnSteps old.lab o steps outcome lab) (sym place.running) is

  next_same : (outcome : Outcome) → h.turn.outcome ≡ outcome → swaps_in h.turn.next ≡ running_of (turned_on place.one h.turn.steps outcome)
  next_same outcome is = h.turn.next_is ∙ (λ i. listed (open_after (sym place.running i) h.turn.steps (is i))) ∙ sym (turned_running place.one h.turn.steps outcome)

  turn_works : (outcome : Outcome) → h.turn.outcome ≡ outcome → Working the_texts now.told new.journal new.lab (h.turn.before ++ (h.turn.next ++ h.turn.behind)) → WorksWith now new (turn_to outcome)
  turn_works outcome is working =
      works_with before now old new opens exp works h.turn.before h.turn.behind x h.turn.opens_are h.turn.named h.turn.later h.turn.next (turned_on place.one h.turn.steps outcome) (next_same outcome is)
      (since_turned place.one h.turn.steps outcome before now h.turn.later (subst (λ (o : Outcome). IsOutcomeCaused o before now) is h.turn.cause) turn_since) h.turn.holds working

  abbrev Goes : Outcome → Type 0
  Goes outcome = IfGoesOn outcome (TurnSteps old.lab h.turn.swap h.turn.steps outcome new.lab × Working the_texts now.told new.journal new.lab (h.turn.before ++ (h.turn.next ++ h.turn.behind)))

  turned_result : (outcome : Outcome) → h.turn.outcome ≡ outcome → Goes outcome → Leaves the_texts old.lab h.turn.swap before now new.journal h.turn.steps outcome → IsOutcomeCaused outcome before now
      → Obeyed devices before now (Is (Ok (Turn exp))) old new opens (Some exp) (progress_answer exp told)
  turned_result outcome is goes leaves cause = by outcome is goes leaves cause
    where
      -- THE COUNT since which its causes came
      count_is : counted_from opens (Some exp) devices ≡ place.one.devices
      count_is = counted before now old new opens exp works h.turn.before h.turn.behind x h.turn.opens_are h.turn.named devices

      halts : (Halts h.turn.outcome → IsStop told) × (IsStop told → Halts h.turn.outcome)
      halts = halts_as h.turn.swap told h.turn.outcome h.turn.is_told

      answer : (outcome : Outcome) → h.turn.outcome ≡ outcome → IsAnswer place.one.running.swap outcome (progress_answer exp told)
      answer outcome is = subst (λ (o : RunningSwap). IsAnswer o.swap outcome (progress_answer exp told)) (sym place.running)
          (subst (λ (o : Outcome). IsAnswer h.turn.swap.swap o (progress_answer exp told)) is
          (answered h.turn.swap exp h.turn.named told h.turn.outcome (λ _. plain before now old new opens exp works h.turn.before h.turn.behind x h.turn.opens_are h.turn.named) h.turn.is_told))

      left : (outcome : Outcome) → h.turn.outcome ≡ outcome → Rattle.lab_core.proofs.PerformSwap.Leads devices before now (Is (Ok (Turn exp))) old new opens turn_to place.one.running.swap exp h.turn.steps h.turn.told_is h.turn.sound h.turn.later limit
          turn_leaves TurnIs turn_done outcome → IsCausedSince outcome place.one.devices before now → IsCausedNow outcome before now → Obeyed devices before now (Is (Ok (Turn exp))) old new opens (Some exp) (progress_answer exp told)
      left outcome is leads cause here =
          by_outcome devices before now (Is (Ok (Turn exp))) old new opens turn_to place.one.running.swap exp h.turn.steps h.turn.told_is h.turn.sound h.turn.later limit
          turn_leaves TurnIs turn_done outcome leads
          (subst (λ (n : ℕ). IsCausedSince outcome n before now) (sym count_is) cause) here (λ h'. stops.0 (halts.0 (subst Halts (sym is) h'))) (λ h'. subst Halts is (halts.1 (stops.1 h'))) (progress_answer exp told) (answer outcome is)

      longer : (outcome : Outcome) → h.turn.outcome ≡ outcome → IfGoesOn outcome (IsLonger old.journal new.journal h.turn.steps)
      longer outcome is = subst (λ (o : Outcome). IfGoesOn o (IsLonger old.journal new.journal h.turn.steps)) is h.turn.longer

      by : (outcome : Outcome) → h.turn.outcome ≡ outcome → Goes outcome → Leaves the_texts old.lab h.turn.swap before now new.journal h.turn.steps outcome → IsOutcomeCaused outcome before now → Obeyed devices before now (Is (Ok (Turn exp))) old new opens (Some exp) (progress_answer exp told)
      by More is goes leaves cause = left More is (steps_as More h.turn.steps new.lab goes.0, turn_works More is goes.1, longer More is) tt tt
      by (TurnsBack why) is goes leaves cause = left (TurnsBack why) is (steps_as (TurnsBack why) h.turn.steps new.lab goes.0, turn_works (TurnsBack why) is goes.1, longer (TurnsBack why) is) (risen_by why place.one.devices before now turn_since.later cause) cause
      by (Ended leg) is goes leaves cause =
          left (Ended leg) is (steps_as (Ended leg) h.turn.steps new.lab goes.0, turn_works (Ended leg) is goes.1, longer (Ended leg) is)
          (turn_caused place.one leg before now h.turn.later.devices turn_since (ap (λ (o : RunningSwap). o.leg) place.running ∙ goes.0.1)) tt
      by (Stuck why) is goes leaves cause = left (Stuck why) is (steps_as (Stuck why) h.turn.steps new.lab goes.0, turn_works (Stuck why) is goes.1, longer (Stuck why) is) (risen_by why place.one.devices before now turn_since.later cause) cause
      by Unwritten is goes leaves cause =
          left Unwritten is (Rattle.swap_turns.proofs.Closing.closes_as the_texts before.told h.turn.steps _ _ (λ lab all. steps_as Unwritten h.turn.steps lab all) leaves) cause tt
      by Stopped is goes leaves cause = left Stopped is (Rattle.swap_turns.proofs.Closing.closes_as the_texts before.told h.turn.steps _ _ (λ lab all. steps_as Stopped h.turn.steps lab all) leaves) tt tt

  pub turned : Obeyed devices before now (Is (Ok (Turn exp))) old new opens (Some exp) (progress_answer exp told)
  turned = turned_result h.turn.outcome refl h.goes h.turn.leaves h.turn.cause
