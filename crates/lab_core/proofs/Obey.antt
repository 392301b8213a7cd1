-- The state after a call, by the steps that it added, in two wordings.
use Rattle.std.proofs.Common.{◌≡◌, inr, ℕ, Bool, true, false, not, List, [], ◌∷◌, ◌++◌, Option, Some, None, IfSome, Result, Ok, Err, refl, sym, ap, subst, arith}
use Rattle.std.proofs.lemmas.List.{append-nil}
use Rattle.lab_base.specs.Counts.{Rose}
use Rattle.lab_base.specs.Lists.{Has}
use Rattle.plant.specs.Events.{Event, Restarted}
use Rattle.plant.specs.Told.{Told, with_steps}
use Rattle.journal_disk.specs.Standing.{limit_of}
use Rattle.records_model.specs.Labs.{LabState}
use Rattle.records_model.specs.Works.{IsSound}
use Rattle.lab_state.specs.Texts.{the_texts}
use Rattle.script_text.specs.Replies.{blames_device, closes}
use Rattle.script_text.specs.declared.command.Command.{Command}
use Rattle.lab_base.specs.declared.what.What.TheVariants as whats
use Rattle.lab_base.proofs.Tests.{some_weaker, never_both, some_all}
use Rattle.script_text.specs.declared.reply.FailedEnd.TheVariants as ends
use Rattle.script_text.specs.declared.reply.Reply.{Reply}
use Rattle.script_text.specs.declared.reply.Reply.TheVariants as replies
use Rattle.swap_turns.specs.Causes.{IsLater}
use Rattle.swap_turns.specs.Closing.{Closes}
use Rattle.swap_turns.specs.Lengths.{IsLonger}
use Rattle.swap_turns.proofs.Lengths.{longer_none}
use Rattle.swap_turns.proofs.Closing.{Images}
use Rattle.plant.specs.Seen.{Seen}
use Rattle.plant.proofs.Traces.{with_steps-nil}
use Rattle.cost_rule.specs.declared.rule.RuleNumber.{RuleNumber}
use Rattle.lab_core.specs.declared.fault.CoreFault.{CoreFault}
use Rattle.lab_core.specs.declared.fault.CoreFault.TheVariants as faults
use Rattle.lab_core.specs.Controller.{Control, WorksWith}
use Rattle.lab_tasks.specs.Tasks.{Task, Recover, tells_end, IsMild}
use Rattle.lab_judge.specs.Judge.{Is}
use Rattle.lab_core.specs.LabSteps.{IsDoneBy, JudgedBeside, does, no_memory}
use Rattle.lab_core.specs.Moments.{trace_in}
use Rattle.lab_core.specs.Obey.{Start, start_of, AllShut, AnswersBy, EndsBy, Obeyed, Shuts, ToldBy, WantsIn, done_as, undone, between, wants_as}
use Rattle.lab_core.specs.Recovery.{broken_off, some}
use Rattle.lab_core.specs.Breaks.{unanswered}
use Rattle.lab_core.specs.Sessions.{After, Closed, Open, OpenSwap, Session, Setting, AreOpenedBy, blames_now, counted_from, ends_swap, name_in}
use Rattle.lab_core.proofs.HowFar.{WereOpen}

-- OF WHAT WAS JUDGED: it is done, with that reply; and how it ends
abbrev pub IsDone : (Result Task Reply → Type 0) → Start → List Event → Option Reply → LabState → Session → Type 0
IsDone IsJudged start own reply lab session = IsDoneBy IsJudged start.set start.lab start.opens own (record { reply = reply; lab = lab; session = session })

abbrev pub Leaves : Option (List Event) → (Result Task Reply → Type 0) → Start → List Event → Reply → (List ℕ → List ℕ → List Event) → Type 0
Leaves trace IsJudged start own reply behind = Shuts (done_as IsJudged start) trace own reply behind

abbrev pub Answers : Option (List Event) → (Result Task Reply → Type 0) → Start → List Event → Reply → LabState → List OpenSwap → Bool → Type 0
Answers trace IsJudged start own reply lab to closing = AnswersBy (done_as IsJudged start) trace own reply lab to closing

abbrev pub ObeyEnds : Option (List Event) → (Result Task Reply → Type 0) → Start → List Event → LabState → List OpenSwap → Result Reply CoreFault → Type 0
ObeyEnds trace IsJudged start own lab to result = EndsBy (done_as IsJudged start) (wants_as IsJudged start) trace own lab to result

abbrev pub ObeyTold : Seen → Seen → (Result Task Reply → Type 0) → Start → LabState → List OpenSwap → Result Reply CoreFault → Type 0
ObeyTold before now IsJudged start lab to result = ToldBy (done_as IsJudged start) (wants_as IsJudged start) before now lab to result

-- WHAT HOLDS of what a plant tells holds of the trace
pub in_trace : (told : Option Told) (P : List Event → Type 0) → IfSome told (λ w. P w.trace) → IfSome (trace_in told) P
in_trace None P h = tt
in_trace (Some w) P h = h

pub of_trace : (told : Option Told) (P : List Event → Type 0) → IfSome (trace_in told) P → IfSome told (λ w. P w.trace)
of_trace None P h = tt
of_trace (Some w) P h = h

-- and of that before some steps more
pub trace_back : (was now : Option Told) (steps : List Event) (P : List Event → Type 0) → now ≡ with_steps was steps → IfSome (trace_in now) P → IfSome (trace_in was) (λ t. P (t ++ steps))
trace_back None now steps P is h = tt
trace_back (Some w) now steps P is h = subst (λ o. IfSome (trace_in o) P) is h

-- no steps more
pub false_true : {X : Type 0} → false ≡ true → X
false_true h = absurd (cc h)

-- those that were open are so, whatever the reply
pub as_open : (exp : Option (List ℕ)) (reply : Option Reply) (old new : List OpenSwap) (count : ℕ) → ((o : OpenSwap) → Has new o → ends_swap reply (name_in o) ≡ false) → WereOpen old new → AreOpenedBy exp reply old new count
as_open exp reply old new count stays were = λ o has. inr (stays o has, were o has)

-- a reply that tells of no end, and one that closes, ends no swap that stays open
pub calm_ends : (reply : Reply) (name : List ℕ) → tells_end reply ≡ false → ends_swap (Some reply) name ≡ false
calm_ends (replies.In exp) name h = false_true (sym h)
calm_ends (replies.Out exp) name h = false_true (sym h)
calm_ends (replies.Failed exp end what) name h = false_true (sym h)
calm_ends reply name h = refl

pub shut_ends : (reply : Reply) (name : List ℕ) → closes reply ≡ true → ends_swap (Some reply) name ≡ false
shut_ends (replies.In exp) name h = false_true h
shut_ends (replies.Out exp) name h = false_true h
shut_ends (replies.Failed exp ends.Stuck whats.Journal) name h = refl
shut_ends (replies.Failed exp ends.Stuck (whats.Device device)) name h = false_true h
shut_ends (replies.Failed exp ends.Stuck (whats.Late node)) name h = false_true h
shut_ends (replies.Failed exp ends.Stuck (whats.Unlawful node from to)) name h = false_true h
shut_ends (replies.Failed exp ends.Out what) name h = false_true h
shut_ends (replies.Failed exp ends.In what) name h = false_true h
shut_ends reply name h = refl

-- a device that is blamed for what the command itself sent is blamed
pub now_blames : (reply : Reply) → blames_now reply ≡ true → blames_device reply ≡ true
now_blames (replies.Trouble exp (whats.Device name)) h = refl
now_blames (replies.Failed exp ends.Stuck (whats.Device name)) h = refl
now_blames (replies.Played exp played last closing blaming) h = h
now_blames (replies.Served served) h = h
now_blames (replies.Unread name) h = refl
now_blames reply h = false_true h

-- the plant runs on, if it ran
abbrev pub RunsOn : Seen → Seen → Type 0
RunsOn before now = before.stopped ≡ false → now.stopped ≡ true → ⊥

-- WHAT A CALL LEAVES, by the steps that it added
module _ (devices : ℕ) (before now : Seen) (IsJudged : Result Task Reply → Type 0) (old new : Control) (opens to : List OpenSwap) (exp : Option (List ℕ)) (own : List Event) (told : now.told ≡ with_steps before.told own)
    (sound : IfSome before.told (λ w. IsSound the_texts w.trace → IsSound the_texts (w.trace ++ own))) (later : IsLater before now) (limit : limit_of new.journal ≡ limit_of old.journal) where
  abbrev start : Start
  start = start_of devices old opens

  abbrev Left : Result Reply CoreFault → Type 0
  Left result = Obeyed devices before now IsJudged old new opens exp result

  steps_by : (result : Result Reply CoreFault) → ObeyEnds (trace_in before.told) IsJudged start own new.lab to result → ObeyTold before now IsJudged start new.lab to result
  steps_by result ends = (own, told, record { ends = ends; sound = in_trace before.told (λ t. IsSound the_texts t → IsSound the_texts (t ++ own)) sound })

  -- IT GOES ON
  pub goes_on : (reply : Reply) → closes reply ≡ false → AreOpenedBy exp (Some reply) opens to devices → IsDone IsJudged start own (Some reply) new.lab (Open to) → WorksWith now new to → IsLonger old.journal new.journal own
      → (blames_device reply ≡ true → Rose (counted_from opens exp devices) now.faults.devices) → (blames_now reply ≡ true → Rose before.faults.devices now.faults.devices) → RunsOn before now → Left (Ok reply)
  unfolding steps_by
  goes_on reply open_still opened done works longer blames here runs = record {
    to = to;
    obeys = steps_by (Ok reply) (subst (λ b. Answers (trace_in before.told) IsJudged start own reply new.lab to b) (sym open_still) done);
    works = λ _. works;
    limit = limit;
    longer = λ _. longer;
    opened = opened;
    down = λ closing. never_both (closes reply) closing open_still;
    device = blames;
    here = here;
    later = later.disk;
    still = later.devices;
    stopped = λ ran. (λ h. cc h, λ h. absurd (runs ran h));
  }

  -- MEMORY WAS WANTING
  pub wants : WereOpen opens to → WantsIn IsJudged start own new.lab to → WorksWith now new to → IsLonger old.journal new.journal own → RunsOn before now → Left (Err faults.Memory)
  unfolding steps_by
  wants were done works longer runs = record {
    to = to;
    obeys = steps_by (Err faults.Memory) done;
    works = λ _. works;
    limit = limit;
    longer = λ _. longer;
    opened = as_open exp None opens to devices (λ o has. refl) were;
    down = tt;
    device = tt;
    here = tt;
    later = later.disk;
    still = later.devices;
    stopped = λ ran. (λ h. cc h, λ h. absurd (runs ran h));
  }

  -- IT IS CLOSED, by what its steps are
  module _ (Is : List Event → LabState → Type 0) (closed : Closes the_texts before.told own Is) (reply : Reply) (behind : List ℕ → List ℕ → List Event)
      (done : (lab : LabState) → Is own lab → (a b : List ℕ) → IsDone IsJudged start (own ++ behind a b) (Some reply) lab Closed) where
    abbrev All : List Event → Type 0
    All t = IsSound the_texts t → AllShut (done_as IsJudged start) (trace_in before.told) own reply behind t

    leaves : Leaves (trace_in before.told) IsJudged start own reply behind
    leaves = record {
      lab = closed.after;
      done = done closed.after closed.is;
      images = in_trace before.told All (some_weaker before.told (λ w. Images the_texts w.trace own (Is own)) (λ w. All w.trace) (λ w images sound a b possible. let i = images sound a b possible in (i.0, i.1, done i.0 i.2 a b)) closed.images);
    }

  -- by a reply that blames no device
  pub closed_by : WereOpen opens to → (reply : Reply) → closes reply ≡ true → blames_device reply ≡ false → (Is : List Event → LabState → Type 0) → Closes the_texts before.told own Is
      → ((lab : LabState) → Is own lab → IsDone IsJudged start (own ++ []) (Some reply) lab Closed) → Rose before.faults.disk now.faults.disk → RunsOn before now → Left (Ok reply)
  closed_by were reply closing mild Is closed done rose runs = record {
    to = to;
    obeys = steps_by (Ok reply) (subst (λ b. Answers (trace_in before.told) IsJudged start own reply new.lab to b) (sym closing) (leaves Is closed reply (λ a b. []) (λ lab is a b. done lab is)));
    works = λ going. false_true (subst (λ b. not b ≡ true) closing going);
    limit = limit;
    longer = λ going. false_true (subst (λ b. not b ≡ true) closing going);
    opened = as_open exp (Some reply) opens to devices (λ o has. shut_ends reply (name_in o) closing) were;
    down = λ _. rose;
    device = λ blaming. never_both (blames_device reply) blaming mild;
    here = λ blaming. never_both (blames_device reply) (now_blames reply blaming) mild;
    later = later.disk;
    still = later.devices;
    stopped = λ ran. (λ h. cc h, λ h. absurd (runs ran h));
  }

  -- by a stop
  pub halted : WereOpen opens to → (Is : List Event → LabState → Type 0) → Closes the_texts before.told own Is → ((lab : LabState) → Is own lab → (a b : List ℕ) → IsDone IsJudged start (own ++ Restarted a b ∷ []) (Some replies.Stopped) lab Closed)
      → (before.stopped ≡ false → now.stopped ≡ true) → Left (Err faults.Stopped)
  halted were Is closed done stop = record {
    to = to;
    obeys = steps_by (Err faults.Stopped) (leaves Is closed replies.Stopped (λ a b. Restarted a b ∷ []) done);
    works = λ going. false_true going;
    limit = limit;
    longer = λ going. false_true going;
    opened = as_open exp None opens to devices (λ o has. refl) were;
    down = tt;
    device = tt;
    here = tt;
    later = later.disk;
    still = later.devices;
    stopped = λ ran. (λ h. stop ran, λ h. refl);
  }

-- WHERE MEMORY WAS WANTING the command is done as far as it came
pub wants_done : (IsJudged : Result Task Reply → Type 0) (start : Start) (own : List Event) (lab : LabState) (to : List OpenSwap) → WantsIn IsJudged start own lab to → IsDone IsJudged start own None lab Closed
wants_done IsJudged start own lab to (undone none lab_is to_is) = no_memory (record { nothing = none; after_is = ap (λ u. record { reply = None; lab = u; session = Closed }) lab_is })
wants_done IsJudged start own lab to (between judged settles to_is) = does (Ok Recover) judged (broken_off (some settles) (unanswered refl) refl)

-- NOTHING WAS DONE
sound_still : (told : Option Told) → IfSome told (λ w. IsSound the_texts w.trace → IsSound the_texts (w.trace ++ []))
sound_still told = some_all told (λ w. IsSound the_texts w.trace → IsSound the_texts (w.trace ++ [])) (λ w sound. subst (λ l. IsSound the_texts l) (sym (append-nil w.trace)) sound)

same_later : (before : Seen) → IsLater before before
same_later before = record { disk = omega arith; devices = omega arith }

-- the same are open
pub same_open : (opens : List OpenSwap) → WereOpen opens opens
same_open opens = λ o has. (o, has, refl, refl)

-- a mild reply
pub replied : (devices : ℕ) (before : Seen) (IsJudged : Result Task Reply → Type 0) (c : Control) (opens : List OpenSwap) (exp : Option (List ℕ)) (reply : Reply) → WorksWith before c opens → IsMild reply
    → IsDone IsJudged (start_of devices c opens) [] (Some reply) c.lab (Open opens) → Obeyed devices before before IsJudged c c opens exp (Ok reply)
replied devices before IsJudged c opens exp reply works mild done =
    goes_on devices before before IsJudged c c opens opens exp [] (with_steps-nil before.told) (sound_still before.told) (same_later before) refl reply mild.0 (as_open exp (Some reply) opens opens devices (λ o has. calm_ends reply (name_in o) mild.2) (same_open opens)) done works (longer_none c.journal) (λ blaming. never_both (blames_device reply) blaming mild.1)
    (λ blaming. never_both (blames_device reply) (now_blames reply blaming) mild.1)
    (λ ran stopped. never_both before.stopped stopped ran)

-- a refusal
pub refuses : (devices : ℕ) (before : Seen) (IsJudged : Result Task Reply → Type 0) (c : Control) (opens : List OpenSwap) (exp : Option (List ℕ)) (reply : Reply) → WorksWith before c opens → IsJudged (Err reply) × IsMild reply
    → Obeyed devices before before IsJudged c c opens exp (Ok reply)
refuses devices before IsJudged c opens exp reply works is = replied devices before IsJudged c opens exp reply works is.1 (does (Err reply) is.0 (record { nothing = refl; after_is = refl }))

-- memory was wanting
pub wanted : (devices : ℕ) (before : Seen) (IsJudged : Result Task Reply → Type 0) (c : Control) (opens : List OpenSwap) (exp : Option (List ℕ)) → WorksWith before c opens → Obeyed devices before before IsJudged c c opens exp (Err faults.Memory)
wanted devices before IsJudged c opens exp works =
    wants devices before before IsJudged c c opens opens exp [] (with_steps-nil before.told) (sound_still before.told) (same_later before) refl (same_open opens) (undone refl refl refl) works (longer_none c.journal)
    (λ ran stopped. never_both before.stopped stopped ran)

-- WHAT IS JUDGED in other words
module _ (A B : Result Task Reply → Type 0) (each : (j : Result Task Reply) → A j → B j) where
  pub done_by : (set : Setting) (s : LabState) (opens : List OpenSwap) (own : List Event) (after : After) → IsDoneBy A set s opens own after → IsDoneBy B set s opens own after
  done_by set s opens own after (does judgement judged done) = does judgement (each judgement judged) done
  done_by set s opens own after (no_memory wants) = no_memory wants

  left_by : (trace : Option (List Event)) (start : Start) (own : List Event) (reply : Reply) (behind : List ℕ → List ℕ → List Event) → Leaves trace A start own reply behind → Leaves trace B start own reply behind
  left_by trace start own reply behind l = record {
    lab = l.lab;
    done = λ a b. done_by start.set start.lab start.opens (own ++ behind a b) _ (l.done a b);
    images = some_weaker trace (λ t. IsSound the_texts t → AllShut (done_as A start) trace own reply behind t) (λ t. IsSound the_texts t → AllShut (done_as B start) trace own reply behind t) (λ t images sound a b possible. let i = images sound a b possible in (i.0, i.1, done_by start.set start.lab start.opens (own ++ behind a b) _ i.2)) l.images;
  }

  answers_by : (trace : Option (List Event)) (start : Start) (own : List Event) (reply : Reply) (lab : LabState) (to : List OpenSwap) (closing : Bool) → Answers trace A start own reply lab to closing → Answers trace B start own reply lab to closing
  answers_by trace start own reply lab to false h = done_by start.set start.lab start.opens own _ h
  answers_by trace start own reply lab to true h = left_by trace start own reply (λ a b. []) h

  ends_by : (trace : Option (List Event)) (start : Start) (own : List Event) (lab : LabState) (to : List OpenSwap) (result : Result Reply CoreFault) → ObeyEnds trace A start own lab to result → ObeyEnds trace B start own lab to result
  ends_by trace start own lab to (Ok reply) h = answers_by trace start own reply lab to (closes reply) h
  ends_by trace start own lab to (Err faults.Stopped) h = left_by trace start own _ _ h
  ends_by trace start own lab to (Err faults.Memory) (undone none lab_is to_is) = undone none lab_is to_is
  ends_by trace start own lab to (Err faults.Memory) (between judged settles to_is) = between (each (Ok Recover) judged) settles to_is

  pub obeyed_by : (devices : ℕ) (before now : Seen) (old new : Control) (opens : List OpenSwap) (exp : Option (List ℕ)) (result : Result Reply CoreFault) → Obeyed devices before now A old new opens exp result → Obeyed devices before now B old new opens exp result
  obeyed_by devices before now old new opens exp result h =
      let start = start_of devices old opens in
      record {
        to = h.to;
        obeys = (
          h.obeys.0,
          h.obeys.1,
          record { ends = ends_by (trace_in before.told) start h.obeys.0 new.lab h.to result h.obeys.2.ends; sound = h.obeys.2.sound },
        );
        works = h.works;
        limit = h.limit;
        longer = h.longer;
        opened = h.opened;
        down = h.down;
        device = h.device;
        here = h.here;
        later = h.later;
        still = h.still;
        stopped = h.stopped;
      }

-- WHAT WAS JUDGED of a command beside the open swaps, and done
pub obeyed_as : (rule : RuleNumber) (devices : ℕ) (before now : Seen) (old new : Control) (opens : List OpenSwap) (exp : Option (List ℕ)) (command : Command) (judgement : Result Task Reply) → JudgedBeside rule command opens old.lab judgement → (result : Result Reply CoreFault)
    → Obeyed devices before now (Is judgement) old new opens exp result → Obeyed devices before now (JudgedBeside rule command opens old.lab) old new opens exp result
obeyed_as rule devices before now old new opens exp command judgement judged result h =
    obeyed_by (Is judgement) (JudgedBeside rule command opens old.lab) (λ j is. subst (λ (x : Result Task Reply). JudgedBeside rule command opens old.lab x) (sym is) judged) devices before now old new opens exp result h
