-- A command that is a list: it is done as its commands are; or it is refused; or memory is wanting before anything is done.
use Rattle.std.proofs.Common.{◌≡◌, ℕ, Bool, true, false, List, Option, Result, Ok, Err, refl, subst}
use Rattle.lab_base.proofs.Tests.{some_weaker}
use Rattle.plant.specs.Events.{Event}
use Rattle.plant.specs.Seen.{Seen}
use Rattle.records_model.specs.Labs.{LabState}
use Rattle.records_model.specs.Works.{IsSound}
use Rattle.lab_state.specs.Texts.{the_texts}
use Rattle.script_text.specs.Replies.{closes}
use Rattle.script_text.specs.declared.reply.Reply.{Reply}
use Rattle.lab_core.specs.declared.fault.CoreFault.{CoreFault}
use Rattle.lab_core.specs.declared.fault.CoreFault.TheVariants as faults
use Rattle.lab_core.specs.Coming.{AllDone, AllWants, Origin}
use Rattle.lab_core.specs.Commands.{ground_by}
use Rattle.lab_core.specs.Controller.{Control, WorksWith}
use Rattle.lab_tasks.specs.Tasks.{Recover, Task, IsMild}
use Rattle.lab_judge.specs.Judge.{Is}
use Rattle.lab_core.specs.LabSteps.{Does, does, no_memory}
use Rattle.lab_core.specs.Lists.{DoesList, Listing, WantsInList, listed, refused as list_refusal, no_memory as list_no_memory, undone as list_undone, between as list_between}
use Rattle.lab_core.specs.Moments.{trace_in}
use Rattle.lab_core.specs.Obey.{AllShut, AnswersBy, Doing, EndsBy, Obeys, Shuts, Wanting, between, done_as, start_of, undone, wants_as}
use Rattle.lab_core.specs.Sessions.{OpenSwap, After}
use Rattle.lab_core.proofs.Obey.{refuses, wanted}

-- ---- WHAT WAS DONE, in other words
module _ (A B : Doing) (V W : Wanting) (each : (trace : Option (List Event)) (own : List Event) (after : After) → A trace own after → B trace own after) (wants : (trace : Option (List Event)) (own : List Event) (lab : LabState) (to : List OpenSwap) → V trace own lab to → W trace own lab to) where
  shuts_as : (trace : Option (List Event)) (own : List Event) (reply : Reply) (behind : List ℕ → List ℕ → List Event) → Shuts A trace own reply behind → Shuts B trace own reply behind
  shuts_as trace own reply behind h = record {
    lab = h.lab;
    done = λ a b. each trace _ _ (h.done a b);
    images = some_weaker trace (λ t. IsSound the_texts t → AllShut A trace own reply behind t) (λ t. IsSound the_texts t → AllShut B trace own reply behind t) (λ t images sound a b possible. let i = images sound a b possible in (i.0, i.1, each trace _ _ i.2)) h.images;
  }

  answers_as : (trace : Option (List Event)) (own : List Event) (reply : Reply) (lab : LabState) (to : List OpenSwap) (closing : Bool) → AnswersBy A trace own reply lab to closing → AnswersBy B trace own reply lab to closing
  answers_as trace own reply lab to false h = each trace own _ h
  answers_as trace own reply lab to true h = shuts_as trace own reply _ h

  ends_as : (trace : Option (List Event)) (own : List Event) (lab : LabState) (to : List OpenSwap) (result : Result Reply CoreFault) → EndsBy A V trace own lab to result → EndsBy B W trace own lab to result
  ends_as trace own lab to (Ok reply) h = answers_as trace own reply lab to (closes reply) h
  ends_as trace own lab to (Err faults.Stopped) h = shuts_as trace own _ _ h
  ends_as trace own lab to (Err faults.Memory) h = wants trace own lab to h

  pub obeys_as : (devices : ℕ) (before now : Seen) (old new : Control) (opens : List OpenSwap) (exp : Option (List ℕ)) (result : Result Reply CoreFault) → Obeys A V devices before now old new opens exp result → Obeys B W devices before now old new opens exp result
  obeys_as devices before now old new opens exp result h = record {
    to = h.to;
    obeys = (
      h.obeys.0,
      h.obeys.1,
      record { ends = ends_as (trace_in before.told) h.obeys.0 new.lab h.to result h.obeys.2.ends; sound = h.obeys.2.sound },
    );
    works = h.works;
    limit = h.limit;
    longer = h.longer;
    opened = h.opened;
    down = h.down;
    device = h.device;
    here = h.here;
    later = h.later;
    still = h.still;
    stopped = h.stopped;
  }

-- ---- THE COMMAND
module _ {X : Type 0} (l : Listing X) (JudgedList : Result X Reply → Type 0) (devices : ℕ) (opens : List OpenSwap) (exp : Option (List ℕ)) (c : Control) where
  abbrev pub Done : Doing
  Done = λ trace own after. DoesList l JudgedList (ground_by (start_of devices c opens).set) trace c.lab opens own after

  abbrev pub Wants : Wanting
  Wants = λ trace own lab to. WantsInList l JudgedList (ground_by (start_of devices c opens).set) trace c.lab opens own lab to

  -- its commands were done
  pub list_listed : (before now : Seen) (new : Control) (start : X) → JudgedList (Ok start) → (result : Result Reply CoreFault)
      → (let o : Origin X = record { before = before; old = c; opens = opens; start = start; devices = devices } in Obeys (AllDone l o) (AllWants l o) devices before now c new opens exp result) → Obeys Done Wants devices before now c new opens exp result
  list_listed before now new start judged result h =
      let o : Origin X = record { before = before; old = c; opens = opens; start = start; devices = devices } in
      obeys_as (AllDone l o) Done (AllWants l o) Wants (λ trace own after done. listed start judged done) (λ trace own lab to wants. list_between start wants.0 judged wants.1) devices before now c new opens exp result h

  module _ (before : Seen) (works : WorksWith before c opens) where
    -- it was refused
    refusal_done : (reply : Reply) → JudgedList (Err reply) → (trace : Option (List Event)) (own : List Event) (after : After) → done_as (Is (Err reply)) (start_of devices c opens) trace own after → Done trace own after
    refusal_done reply judged trace own after (does j is done) = list_refusal reply judged (subst (λ (j : Result Task Reply). Does (start_of devices c opens).set c.lab opens j own after) is done)
    refusal_done reply judged trace own after (no_memory wants) = list_no_memory wants

    none_wants : (IsJudged : Result Task Reply → Type 0) → (IsJudged (Ok Recover) → ⊥) → (trace : Option (List Event)) (own : List Event) (lab : LabState) (new : List OpenSwap) → wants_as IsJudged (start_of devices c opens) trace own lab new → Wants trace own lab new
    none_wants IsJudged no' trace own lab new (undone nothing lab_is to_is) = list_undone nothing lab_is to_is
    none_wants IsJudged no' trace own lab new (between judged settles to_is) = absurd (no' judged)

    pub list_told : (reply : Reply) → JudgedList (Err reply) × IsMild reply → Obeys Done Wants devices before before c c opens exp (Ok reply)
    list_told reply h =
        obeys_as (done_as (Is (Err reply)) (start_of devices c opens)) Done (wants_as (Is (Err reply)) (start_of devices c opens)) Wants (refusal_done reply h.0)
        (none_wants (Is (Err reply)) (λ is. let none : ◌≡◌ {A = Result Task Reply} (Ok Recover) (Err reply) = is in absurd (cc none)))
        devices before before c c opens exp (Ok reply) (refuses devices before (Is (Err reply)) c opens exp reply works (refl, h.1))

    -- memory was wanting before anything was done
    abbrev Nothing : Result Task Reply → Type 0
    Nothing j = ⊥

    nothing_done : (trace : Option (List Event)) (own : List Event) (after : After) → done_as Nothing (start_of devices c opens) trace own after → Done trace own after
    nothing_done trace own after (does j is done) = absurd is
    nothing_done trace own after (no_memory wants) = list_no_memory wants

    pub list_wanted : Obeys Done Wants devices before before c c opens exp (Err faults.Memory)
    list_wanted =
        obeys_as (done_as Nothing (start_of devices c opens)) Done (wants_as Nothing (start_of devices c opens)) Wants nothing_done (none_wants Nothing (λ none. none))
        devices before before c c opens exp (Err faults.Memory) (wanted devices before Nothing c opens exp works)
