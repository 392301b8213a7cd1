-- The state after the beginning of a swap, and after a whole swap: its beginning, and its turns to its end.
use Rattle.std.proofs.Common.{◌≡◌, ◌≢◌, inl, inr, ◌≤◌, ◌+◌, ◌*◌, ◌^◌, ◌↔◌, ℕ, Bool, true, false, nat_le, List, [], ◌∷◌, ◌++◌, length, append_assoc, Option, Some, IfSome, IsTrue, Result, Ok, Err, refl, sym, ap, ◌∙◌, subst, arith}
use Rattle.std.proofs.lemmas.Bool.{leb-true}
use Rattle.std.proofs.lemmas.List.{append-nil, map-append}
use Rattle.lab_base.specs.Lists.{Has}
use Rattle.lab_base.specs.declared.what.What.{What}
use Rattle.lab_base.specs.declared.what.What.TheVariants as whats
use Rattle.lab_base.proofs.Members.{Has-append}
use Rattle.plant.specs.Events.{Event, Restarted}
use Rattle.plant.specs.Seen.{Seen}
use Rattle.plant.specs.Told.{Told, with_steps}
use Rattle.journal_rec.specs.Payloads.{IsRecord, IsBody}
use Rattle.journal_rec.specs.declared.record.Record.TheVariants.{Begin}
use Rattle.journal_rec.specs.declared.record.Way.{Way}
use Rattle.journal_disk.specs.Standing.{length_of, limit_of}
use Rattle.journal_disk.specs.declared.journal.Journal.{Journal}
use Rattle.journal_disk.proofs.Parts.{body_size}
use Rattle.lab_model.specs.Courses.{Device, Late, Plan, Trouble, Unlawful}
use Rattle.records_model.specs.Labs.{LabState, Move, Sane, Says, Follows, moved}
use Rattle.records_model.specs.Works.{IsSound}
use Rattle.std.specs.Prelude.{count_by}
use Rattle.std.proofs.lemmas.List.Sums.{count_by-le-length}
use Rattle.plant.proofs.Traces.{with_steps-append}
use Rattle.journal_model.specs.Journals.{size}
use Rattle.lab_model.specs.Sound.{is_moving}
use Rattle.records_model.proofs.LabLaws.{follows_sane, says_once}
use Rattle.lab_state.specs.Texts.{the_texts}
use Rattle.lab_state.proofs.Canonical.{texts_once}
use Rattle.swap_txn.specs.States.{Plans, unsent}
use Rattle.swap_turns.specs.Beginning.{HasNotBegun, opened}
use Rattle.swap_turns.specs.Finishing.{Finishes, FinishLeaves, IsOver}
use Rattle.swap_turns.specs.Records.{IsBroken, missed, nothing}
use Rattle.swap_turns.specs.Running.{OpenSwap as RunningSwap}
use Rattle.swap_turns.specs.Swaps.{Swap as SwapOf, Moves}
use Rattle.swap_turns.specs.Lengths.{IsLonger}
use Rattle.swap_turns.specs.Turning.{Outcome, More, TurnsBack, Ended, Stuck, Unwritten, Stopped, IfGoesOn}
use Rattle.swap_turns.proofs.Lengths.{longer_on}
use Rattle.swap_turns.specs.Whole as whole
use Rattle.swap_turns.specs.Whole.{SwapSteps}
use Rattle.swap_turns.specs.Causes.{IsCaused, IsLater}
use Rattle.swap_turns.specs.Closing.{Closes}
use Rattle.swap_turns.specs.Legs.{Forth, Undo, Settling}
use Rattle.swap_turns.proofs.Closing.{closes_after}
use Rattle.swap_turns.proofs.Pushing.{rose_later}
use Rattle.swap_turns.proofs.Telling.{if_back, if_both}
use Rattle.swap_mgr.specs.Managing.{HasOpened, IfNothingSent, IfSent, IsAfterOpening, IsStopOpening}
use Rattle.swap_mgr.specs.declared.progress.NotOpened.{NotOpened}
use Rattle.swap_mgr.specs.declared.progress.NotOpened.TheVariants as unopened
use Rattle.swap_mgr.proofs.Holding.{named_open}
use Rattle.swap_mgr.specs.Open.{HasOpen}
use Rattle.swap_mgr.specs.Turns.{IsStop}
use Rattle.swap_turns.specs.declared.progress.Progress.{Progress}
use Rattle.script_text.specs.declared.reply.FailedEnd.TheVariants as ends
use Rattle.script_text.specs.declared.reply.Reply.{Reply}
use Rattle.script_text.specs.declared.reply.Reply.TheVariants as replies
use Rattle.lab_core.specs.declared.fault.CoreFault.TheVariants as faults
use Rattle.lab_core.specs.Breaks.{StartsAfter}
use Rattle.lab_core.specs.Controller.{Control, WorksWith}
use Rattle.lab_tasks.specs.Tasks.{Swap, BeginOnly, IsSwapBy}
use Rattle.lab_tasks.specs.Mappings.{begun_as}
use Rattle.lab_judge.specs.Judge.{Is}
use Rattle.lab_core.specs.LabSteps.{Begins, BeginSteps, IfSpace, Performs, Replies, Swaps, begun_at, does, end_reply, end_session, has_space, is_told, turn_reply}
use Rattle.lab_core.specs.Obey.{Start, start_of, Obeyed}
use Rattle.lab_core.specs.Sessions.{OpenSwap, Session, Setting, Closed, Open, After, IsSince, counted_from, devices_if, name_in}
use Rattle.lab_core.specs.Swapping.{HasEndedIn, HasTried, IsBegunBy, IsOpened, IsPlanned, progress_answer, unopened_answer}
use Rattle.lab_core.proofs.EndOne.{cause_now, cause_since, end_answer, end_halts, end_one, end_works, over_reply, place}
use Rattle.lab_core.proofs.Obey.{closed_by, false_true, goes_on, halted, same_open, IsDone}
use Rattle.lab_core.proofs.OpenSwaps.{IsLast, Pair, Place, none_named, only_last, open_at_none, opened_more, running_has, since_later}
use Rattle.lab_core.proofs.PerformAppend.{no_space}
use Rattle.lab_core.proofs.PerformSwap.{IsCausedNow, IsCausedSince, Leads, by_outcome}
use Rattle.lab_core.proofs.Told.{IsAnswer}

-- A PLANNED SWAP that was prepared for the lab
module _ (s u : LabState) (j : Journal) (plans : Plans) (exp : List ℕ) (way : Way) (course back : Plan) (by : IsSwapBy s exp way course back) (is_record : IsRecord (Begin exp way)) (follows : Follows the_texts s (Begin exp way) u)
    (body : IsBody plans.begin (Begin exp way)) (forth : plans.forth ≡ unsent exp way course back) (space : nat_le (length_of j + length plans.begin + 10240) (limit_of j) ≡ true) (most : limit_of j ≤ 2 ^ 32) (sane : Sane s) where
  gives : moved s by.move ≡ Some u
  gives = ap (λ (m : Move). moved s m) (says_once the_texts s (Begin exp way) by.move follows.move texts_once by.says follows.says) ∙ follows.gives

  -- the last records of at most 256 moves take less than what is kept free
  room : length_of j + size (Begin exp way) + 39 * count_by is_moving u.experiments ≤ limit_of j
  room =
      let kept : length_of j + size (Begin exp way) + 10240 ≤ limit_of j = subst (λ (n : ℕ). length_of j + n + 10240 ≤ limit_of j) (body_size plans.begin (Begin exp way) body) (leb-true _ _ space) in
      let few : length u.experiments ≤ 256 = (follows_sane the_texts s (Begin exp way) u sane follows).few in
      omega (arith, kept, few, count_by-le-length is_moving u.experiments)

  pub planned : IsPlanned s u j plans by.swap (Begin exp way) by.move
  planned = record {
    may = record {
      is_record = is_record;
      says = by.says;
      gives = gives;
      ready = by.ready;
      room = room;
      limit = most;
    };
    begins = by.begins;
    moves = by.moves u gives;
    plan = forth ∙ by.plan u gives;
    body = body;
  }

-- NO SPACE for the record
pub no_space_for : (set : Setting) (s : LabState) (opens : List OpenSwap) (exp : List ℕ) (way : Way) (only : Bool) (own : List Event) (after : After) → has_space set (Begin exp way) ≡ false → Replies s opens (replies.FullJournal set.length) own after
    → Performs set s opens (begun_as only (Swap exp way)) own after
no_space_for set s opens exp way true own after full replies = no_space set s opens (Begin exp way) (Begins s opens set.devices exp (Begin exp way) own after) own after full replies
no_space_for set s opens exp way false own after full replies = no_space set s opens (Begin exp way) (Swaps s opens exp (Begin exp way) own after) own after full replies

-- nothing was sent, in other words
pub nothing_as : (P Q : Type 0) (result : Result (Unit {0}) NotOpened) → (P → Q) → IfNothingSent result P → IfNothingSent result Q
nothing_as P Q (Ok done) f p = tt
nothing_as P Q (Err (unopened.Busy name)) f p = f p
nothing_as P Q (Err (unopened.TooManyOpen most)) f p = f p
nothing_as P Q (Err (unopened.Stuck what)) f p = tt
nothing_as P Q (Err unopened.Stopped) f p = tt

-- the manager has the open swap of a name
pub has_open : (now : Seen) (c : Control) (opens : List OpenSwap) (exp : List ℕ) → WorksWith now c opens → (o : OpenSwap) → Has opens o → name_in o ≡ exp → HasOpen c.swaps exp
has_open now c opens exp works o has is =
    let y = running_has works.pairs opens (sym works.are) o has in
    record { state = y.0.1; stands = works.holds.stands y.0 y.1; named = named_open c.lab y.0.0 y.0.1 (works.working.each y.0 y.1) ∙ ap (λ (r : RunningSwap). r.swap.name) y.2 ∙ is }

-- WHAT IS DONE of a record for which there is space, by its beginning alone or by the whole swap
module _ (devices : ℕ) (old : Control) (opens : List OpenSwap) (exp : List ℕ) (way : Way) (p : SwapOf) (name : p.name ≡ exp) (move : Move) (says : Says the_texts old.lab (Begin exp way) move) (moves : (state : LabState) → moved old.lab move ≡ Some state → Moves p state)
    (space : has_space (start_of devices old opens).set (Begin exp way) ≡ true) (outcome : Outcome) (steps : List Event) (lab : LabState) (behind : List Event) (reply : Reply) (session : Session) (starts : StartsAfter outcome behind) where
  abbrev after : After
  after = record { reply = Some reply; lab = lab; session = session }

  only_done : BeginSteps old.lab (Begin exp way) move steps lab outcome → turn_reply p outcome ≡ Some reply → session ≡ end_session (opens ++ begun_at p devices ∷ []) outcome
      → IsDone (Is (Ok (BeginOnly exp way))) (start_of devices old opens) (steps ++ behind) (Some reply) lab session
  only_done begins reply_is session_is =
      does (Ok (BeginOnly exp way)) refl
      (subst (λ (b : Bool). IfSpace b (length_of old.journal) old.lab opens (Begins old.lab opens devices exp (Begin exp way) (steps ++ behind) after) (steps ++ behind) after) (sym space)
      (record { swap = p; name = name; move = move; says = says; moves = moves; outcome = outcome; steps = steps; behind = behind; own_is = refl; begins = begins; answered = is_told starts (sym reply_is) session_is }))

  whole_done : SwapSteps p old.lab (Begin exp way) move steps lab outcome → end_reply p outcome ≡ Some reply → session ≡ end_session opens outcome → IsDone (Is (Ok (Swap exp way))) (start_of devices old opens) (steps ++ behind) (Some reply) lab session
  whole_done ends reply_is session_is =
      does (Ok (Swap exp way)) refl
      (subst (λ (b : Bool). IfSpace b (length_of old.journal) old.lab opens (Swaps old.lab opens exp (Begin exp way) (steps ++ behind) after) (steps ++ behind) after) (sym space)
      (record { swap = p; name = name; move = move; says = says; moves = moves; outcome = outcome; steps = steps; behind = behind; own_is = refl; ends = ends; answered = is_told starts (sym reply_is) session_is }))

-- A SWAP OF A RECORD for which there is space, over a controller at work with these open swaps
module _ (devices : ℕ) (before now : Seen) (old new : Control) (opens : List OpenSwap) (exp : List ℕ) (way : Way) (course back : Plan) (by : IsSwapBy old.lab exp way course back) (works : WorksWith before old opens) (within : devices ≤ before.faults.devices)
    (space : has_space (start_of devices old opens).set (Begin exp way) ≡ true) where
  abbrev start : Start
  start = start_of devices old opens

  abbrev begun_one : OpenSwap
  begun_one = begun_at by.swap devices

  -- ITS BEGIN BROKE OFF
  abbrev broken_reply : Reply
  broken_reply = replies.Failed by.swap.name ends.Stuck whats.Journal

  unwritten_done : (only : Bool) (steps : List Event) (lab : LabState) → IsBroken missed old.lab (Begin exp way) by.move steps lab → IsDone (Is (Ok (begun_as only (Swap exp way)))) start (steps ++ []) (Some broken_reply) lab Closed
  unwritten_done true steps lab broken = only_done devices old opens exp way by.swap by.name by.move by.says by.moves space Unwritten steps lab [] broken_reply Closed refl broken refl refl
  unwritten_done false steps lab broken = whole_done devices old opens exp way by.swap by.name by.move by.says by.moves space Unwritten steps lab [] broken_reply Closed refl (whole.unwritten broken refl) refl refl

  stopped_done : (only : Bool) (steps : List Event) (lab : LabState) → IsBroken nothing old.lab (Begin exp way) by.move steps lab → (a b : List ℕ) → IsDone (Is (Ok (begun_as only (Swap exp way)))) start (steps ++ Restarted a b ∷ []) (Some replies.Stopped) lab Closed
  stopped_done true steps lab broken a b = only_done devices old opens exp way by.swap by.name by.move by.says by.moves space Stopped steps lab (Restarted a b ∷ []) replies.Stopped Closed (a, b, refl) broken refl refl
  stopped_done false steps lab broken a b = whole_done devices old opens exp way by.swap by.name by.move by.says by.moves space Stopped steps lab (Restarted a b ∷ []) replies.Stopped Closed (a, b, refl) (whole.stopped broken refl) refl refl

  pub unwritten : HasNotBegun the_texts old.lab (Begin exp way) by.move missed Unwritten before now → limit_of new.journal ≡ limit_of old.journal → (now.stopped ≡ true → ⊥) → (what : What) → what ≡ whats.Journal → (only : Bool)
      → Obeyed devices before now (Is (Ok (begun_as only (Swap exp way)))) old new opens (Some exp) (Ok (replies.Failed exp ends.Stuck what))
  unwritten h limit runs what is only =
      subst (λ (r : Reply). Obeyed devices before now (Is (Ok (begun_as only (Swap exp way)))) old new opens (Some exp) (Ok r)) (λ i. replies.Failed (by.name i) ends.Stuck (sym is i))
      (closed_by devices before now (Is (Ok (begun_as only (Swap exp way)))) old new opens opens (Some exp) h.steps h.told h.sound h.later limit (same_open opens) broken_reply refl refl (IsBroken missed old.lab (Begin exp way) by.move)
      h.leaves (λ lab broken. unwritten_done only h.steps lab broken) h.cause (λ _. runs))

  pub broke_off : HasNotBegun the_texts old.lab (Begin exp way) by.move nothing Stopped before now → limit_of new.journal ≡ limit_of old.journal → now.stopped ≡ true → (only : Bool)
      → Obeyed devices before now (Is (Ok (begun_as only (Swap exp way)))) old new opens (Some exp) (Err faults.Stopped)
  broke_off h limit stop only =
      halted devices before now (Is (Ok (begun_as only (Swap exp way)))) old new opens opens (Some exp) h.steps h.told h.sound h.later limit (same_open opens) (IsBroken nothing old.lab (Begin exp way) by.move) h.leaves
      (λ lab broken a b. stopped_done only h.steps lab broken a b) (λ _. stop)

  -- IT WAS NOT OPENED
  pub not_opened : (u : LabState) (fault : NotOpened) → HasTried fault → IsAfterOpening the_texts works.pairs by.swap old.lab u (Begin exp way) by.move before now old.journal new.journal new.swaps (Err fault) → IfNothingSent (Err fault) ((now ≡ before) × (new ≡ old))
      → IfSent (Err fault) (IsStopOpening (Err fault) ↔ IsTrue now.stopped) → limit_of new.journal ≡ limit_of old.journal → IsBegunBy devices before now old new opens exp way (unopened_answer exp fault)
  not_opened u (unopened.Busy name) tried after still stops limit = absurd tried
  not_opened u (unopened.TooManyOpen most) tried after still stops limit = absurd tried
  not_opened u (unopened.Stuck what) tried after still stops limit = λ only. unwritten after.1 limit (λ stopped. absurd (stops.1 stopped)) what after.0 only
  not_opened u unopened.Stopped tried after still stops limit = λ only. broke_off after limit (stops.0 tt) only

  -- IT IS OPENED, one more
  since_more : before.faults.devices ≤ now.faults.devices → (o : OpenSwap) → Has (opens ++ begun_one ∷ []) o → IsSince now.faults.devices o
  since_more later o has = elim (Has-append opens (begun_one ∷ []) o has) [
    | inl old_one ↦ since_later o before.faults.devices now.faults.devices later (works.since o old_one)
    | inr at_end ↦ elim at_end [
      | inl here ↦ subst (λ (x : OpenSwap). IsSince now.faults.devices x) here (record { later = omega (arith, within, later); caused = tt })
      | inr none ↦ absurd none
    ]
  ]

  pub is_opened : HasOpened the_texts works.pairs by.swap old.lab new.lab (Begin exp way) by.move before now old.journal new.journal new.swaps → (now.stopped ≡ true → ⊥) → IsOpened devices before now old new opens exp way
  is_opened h runs = record {
    swap = by.swap;
    name = by.name;
    move = by.move;
    says = by.says;
    moves = by.moves;
    space = space;
    state = h.state;
    begun = h.begun;
    works = record {
      pairs = works.pairs ++ (opened by.swap, h.state) ∷ [];
      are = map-append (λ (q : Pair). q.0) works.pairs ((opened by.swap, h.state) ∷ []) ∙ ap (λ (l : List RunningSwap). l ++ opened by.swap ∷ []) works.are ∙ sym (map-append (λ (o : OpenSwap). o.running) opens (begun_one ∷ []));
      working = h.all;
      holds = h.holds;
      since = since_more h.begun.later.devices;
    };
    runs = runs;
  }

-- IT WAS ONLY BEGUN
module _ (devices : ℕ) (before now : Seen) (old new : Control) (opens : List OpenSwap) (exp : List ℕ) (way : Way) (h : IsOpened devices before now old new opens exp way) where
  abbrev begun_to : Outcome → List OpenSwap
  begun_to outcome = opens ++ begun_at h.swap devices ∷ []

  abbrev BegunIs : Outcome → List Event → LabState → Type 0
  BegunIs outcome steps lab = BeginSteps old.lab (Begin exp way) h.move steps lab outcome

  begun_done : (outcome : Outcome) (lab : LabState) (behind : List Event) (reply : Reply) (session : Session) → BegunIs outcome h.begun.steps lab → StartsAfter outcome behind → turn_reply h.swap outcome ≡ Some reply → session ≡ end_session (begun_to outcome) outcome
      → IsDone (Is (Ok (BeginOnly exp way))) (start_of devices old opens) (h.begun.steps ++ behind) (Some reply) lab session
  begun_done outcome lab behind reply session is starts reply_is session_is = only_done devices old opens exp way h.swap h.name h.move h.says h.moves h.space outcome h.begun.steps lab behind reply session starts is reply_is session_is

  pub only_begun : Obeyed devices before now (Is (Ok (BeginOnly exp way))) old new opens (Some exp) (Ok (replies.More exp))
  only_begun =
      goes_on devices before now (Is (Ok (BeginOnly exp way))) old new opens (begun_to More) (Some exp) h.begun.steps h.begun.told h.begun.sound h.begun.later h.begun.limit (replies.More exp) refl
      (opened_more exp opens (begun_at h.swap devices) devices h.name refl)
      (subst (λ (l : List Event). IsDone (Is (Ok (BeginOnly exp way))) (start_of devices old opens) l (Some (replies.More exp)) new.lab (Open (begun_to More))) (append-nil h.begun.steps)
      (subst (λ (n : List ℕ). IsDone (Is (Ok (BeginOnly exp way))) (start_of devices old opens) (h.begun.steps ++ []) (Some (replies.More n)) new.lab (Open (begun_to More))) h.name
      (begun_done More new.lab [] (replies.More h.swap.name) (Open (begun_to More)) h.begun.begins refl refl refl)))
      h.works h.begun.longer (λ blaming. false_true blaming) (λ blaming. false_true blaming) (λ _. h.runs)

steps_over : (p : SwapOf) (s : LabState) (begin : Rattle.journal_rec.specs.declared.record.Record.Record) (move : Move) (steps : List Event) (lab : LabState) (outcome : Outcome) → SwapSteps p s begin move steps lab outcome → IsOver outcome
steps_over p s begin move steps lab outcome (whole.begun b) = b.finishes.over
steps_over p s begin move steps lab outcome (whole.unwritten broken is) = subst IsOver (sym is) tt
steps_over p s begin move steps lab outcome (whole.stopped broken is) = subst IsOver (sym is) tt

-- BEGUN, AND TURNED TO ITS END
module _ (devices : ℕ) (before mid now : Seen) (old between new : Control) (opens : List OpenSwap) (exp : List ℕ) (way : Way) (works : WorksWith before old opens) (idle : HasOpen old.swaps exp → ⊥) (h : IsOpened devices before mid old between opens exp way) (told : Progress)
    (f : HasEndedIn between.lab h.works.pairs exp mid now between.journal new.journal told new.swaps new.lab) (limit : limit_of new.journal ≡ limit_of between.journal) (stops : IsStop told ↔ IsTrue now.stopped) where
  abbrev last : OpenSwap
  last = begun_at h.swap devices

  abbrev more : List OpenSwap
  more = opens ++ last ∷ []

  abbrev there : Place f.end.before f.end.swap f.end.behind more
  there = place mid now between new more exp h.works told f

  apart : (q : OpenSwap) → Has opens q → name_in q ≢ exp
  apart = none_named before old opens exp works idle

  -- the one that was turned is the one that was opened
  is_last : IsLast opens last there.front there.one there.rest
  is_last = only_last exp opens last there.front there.one there.rest there.are (end_one mid now between new more exp h.works told f).name apart

  swap_is : f.end.swap ≡ opened h.swap
  swap_is = sym there.running ∙ ap (λ (o : OpenSwap). o.running) is_last.one_is

  left_are : there.front ++ there.rest ≡ opens
  left_are = (λ i. is_last.front_is i ++ is_last.rest_is i) ∙ append-nil opens

  abbrev end_outcome : Outcome
  end_outcome = f.end.finished.outcome

  abbrev end_steps : List Event
  end_steps = f.end.finished.steps

  abbrev all_steps : List Event
  all_steps = h.begun.steps ++ end_steps

  all_told : now.told ≡ with_steps before.told all_steps
  all_told = f.end.finished.told ∙ ap (λ (t : Option Told). with_steps t end_steps) h.begun.told ∙ with_steps-append before.told h.begun.steps end_steps

  all_sound : IfSome before.told (λ w. IsSound the_texts w.trace → IsSound the_texts (w.trace ++ all_steps))
  all_sound = if_both before.told (λ w. IsSound the_texts w.trace → IsSound the_texts (w.trace ++ h.begun.steps)) (λ w. IsSound the_texts (w.trace ++ h.begun.steps) → IsSound the_texts ((w.trace ++ h.begun.steps) ++ end_steps))
      (λ w. IsSound the_texts w.trace → IsSound the_texts (w.trace ++ all_steps)) (λ w first then sound. subst (λ l. IsSound the_texts l) (append_assoc w.trace h.begun.steps end_steps) (then (first sound))) h.begun.sound
      (if_back before.told mid.told h.begun.steps (λ l. IsSound the_texts l → IsSound the_texts (l ++ end_steps)) h.begun.told f.end.finished.sound)

  all_later : IsLater before now
  all_later = record { disk = omega (arith, h.begun.later.disk, f.end.finished.later.disk); devices = omega (arith, h.begun.later.devices, f.end.finished.later.devices) }

  abbrev WholeIs : Outcome → List Event → LabState → Type 0
  WholeIs outcome steps lab = SwapSteps h.swap old.lab (Begin exp way) h.move steps lab outcome

  abbrev whole_to : Outcome → List OpenSwap
  whole_to outcome = opens

  steps_as : (outcome : Outcome) (lab : LabState) → Finishes between.lab f.end.swap end_steps outcome lab → WholeIs outcome all_steps lab
  steps_as outcome lab is =
      whole.begun (record {
        front = h.begun.steps;
        behind = end_steps;
        steps_are = refl;
        state = between.lab;
        begins = h.begun.begins;
        finishes = subst (λ (o : RunningSwap). Finishes between.lab o end_steps outcome lab) swap_is is;
      })

  closes : (outcome : Outcome) → Closes the_texts mid.told end_steps (λ steps lab. Finishes between.lab f.end.swap steps outcome lab) → Closes the_texts before.told all_steps (λ steps lab. WholeIs outcome steps lab)
  closes outcome leaves =
      closes_after the_texts before.told mid.told h.begun.steps end_steps (λ steps lab. Finishes between.lab f.end.swap steps outcome lab) (λ steps lab. WholeIs outcome steps lab) h.begun.told h.begun.sound (λ lab is. steps_as outcome lab is) leaves

  whole_done' : (outcome : Outcome) (lab : LabState) (behind : List Event) (reply : Reply) (session : Session) → WholeIs outcome all_steps lab → StartsAfter outcome behind → turn_reply h.swap outcome ≡ Some reply → session ≡ end_session (whole_to outcome) outcome
      → IsDone (Is (Ok (Swap exp way))) (start_of devices old opens) (all_steps ++ behind) (Some reply) lab session
  whole_done' outcome lab behind reply session is starts reply_is session_is =
      whole_done devices old opens exp way h.swap h.name h.move h.says h.moves h.space outcome all_steps lab behind reply session starts is
      (over_reply h.swap outcome reply (steps_over h.swap old.lab (Begin exp way) h.move all_steps lab outcome is) reply_is) session_is

  all_longer : IsLonger between.journal new.journal end_steps → IsLonger old.journal new.journal all_steps
  all_longer longer = longer_on old.journal between.journal new.journal h.begun.steps end_steps h.begun.longer longer

  all_limit : limit_of new.journal ≡ limit_of old.journal
  all_limit = limit ∙ h.begun.limit

  abbrev WholeLeads : Outcome → Type 0
  WholeLeads outcome = Leads devices before now (Is (Ok (Swap exp way))) old new opens whole_to h.swap exp all_steps all_told all_sound all_later all_limit (λ _. (same_open opens, λ gone q has same. apart q has (same ∙ h.name))) WholeIs whole_done' outcome

  leads_by : (outcome : Outcome) → IsOver outcome → Rattle.lab_core.proofs.EndOne.Goes mid now between new more exp h.works told f outcome → IfGoesOn outcome (IsLonger between.journal new.journal end_steps)
      → FinishLeaves the_texts between.lab f.end.swap mid now new.journal end_steps outcome → WholeLeads outcome
  leads_by More over goes longer leaves = absurd over
  leads_by (TurnsBack why) over goes longer leaves = absurd over
  leads_by (Ended leg) over goes longer leaves = (steps_as (Ended leg) new.lab goes.0, subst (λ (l : List OpenSwap). WorksWith now new l) left_are (end_works mid now between new more exp h.works told f goes.1), all_longer longer)
  leads_by (Stuck why) over goes longer leaves = (steps_as (Stuck why) new.lab goes.0, subst (λ (l : List OpenSwap). WorksWith now new l) left_are (end_works mid now between new more exp h.works told f goes.1), all_longer longer)
  leads_by Unwritten over goes longer leaves = closes Unwritten leaves
  leads_by Stopped over goes longer leaves = closes Stopped leaves

  -- its causes came since it was opened, in this call
  causes : (outcome : Outcome) → IsCausedSince outcome devices mid now → IsCausedSince outcome devices before now
  causes More cause = tt
  causes (TurnsBack why) cause = cause
  causes (Ended Forth) cause = tt
  causes (Ended (Undo why)) cause = cause
  causes (Ended Settling) cause = tt
  causes (Stuck why) cause = cause
  causes Unwritten cause = rose_later before.faults.disk mid.faults.disk now.faults.disk now.faults.disk h.begun.later.disk cause (omega arith)
  causes Stopped cause = tt

  caused_here : IsCausedSince end_outcome devices before now
  caused_here = causes end_outcome (subst (λ (o : OpenSwap). IsCausedSince end_outcome o.devices mid now) is_last.one_is (cause_since mid now between new more exp h.works told f))

  later_caused : (why : Trouble) → IsCaused why mid now → IsCaused why before now
  later_caused (Device name) cause = rose_later before.faults.devices mid.faults.devices now.faults.devices now.faults.devices h.begun.later.devices cause (omega arith)
  later_caused (Late node) cause = tt
  later_caused (Unlawful node from to) cause = tt

  now_caused : (outcome : Outcome) → IsCausedNow outcome mid now → IsCausedNow outcome before now
  now_caused More cause = tt
  now_caused (TurnsBack why) cause = later_caused why cause
  now_caused (Ended leg) cause = tt
  now_caused (Stuck why) cause = later_caused why cause
  now_caused Unwritten cause = tt
  now_caused Stopped cause = tt

  caused_now : IsCausedNow end_outcome before now
  caused_now = now_caused end_outcome (cause_now mid now between new more exp h.works told f)

  counted_here : counted_from opens (Some exp) devices ≡ devices
  counted_here = ap (λ (o : Option OpenSwap). devices_if o devices) (open_at_none exp opens apart)

  pub whole_swap : Obeyed devices before now (Is (Ok (Swap exp way))) old new opens (Some exp) (progress_answer exp told)
  whole_swap =
      let halts = end_halts mid now between new more exp h.works told f in
      by_outcome devices before now (Is (Ok (Swap exp way))) old new opens whole_to h.swap exp all_steps all_told all_sound all_later all_limit (λ _. (same_open opens, λ gone q has same. apart q has (same ∙ h.name))) WholeIs whole_done' end_outcome
      (leads_by end_outcome f.end.finished.over f.goes f.end.finished.longer f.end.finished.leaves) (subst (λ (n : ℕ). IsCausedSince end_outcome n before now) (sym counted_here) caused_here) caused_now (λ halted. stops.0 (halts.0 halted)) (λ stopped. halts.1 (stops.1 stopped))
      (progress_answer exp told) (subst (λ (o : RunningSwap). IsAnswer o.swap end_outcome (progress_answer exp told)) swap_is (end_answer mid now between new more exp h.works told f end_outcome refl))
