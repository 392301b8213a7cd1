-- A call of the controller as a command that was done.
use Rattle.std.proofs.Common.{◌≡◌, ◌↔◌, ◌+◌, inl, inr, ℕ, ◌^◌, Bool, true, false, List, [], ◌∷◌, ◌++◌, length, Option, Some, None, Result, Ok, Err, refl, sym, ◌∙◌, ap, subst, arith}
use Rattle.std.specs.Prelude.{IfSome, IsErrOf, IsTrue, OnOk, OnErr, ◌≤◌, is_some, not}
use Rattle.std.proofs.lemmas.List.{append-nil}
use Rattle.lab_base.specs.Counts.{Rose}
use Rattle.lab_base.proofs.Tests.{some_weaker}
use Rattle.plant.specs.declared.drill.Drill.{Drill}
use Rattle.plant.specs.declared.moment.Faults.{Faults}
use Rattle.plant.specs.Disks.{disk, ArePossible}
use Rattle.plant.specs.Events.{Event, Restarted}
use Rattle.plant.specs.Seen.{Seen}
use Rattle.plant.specs.Told.{Told, with_steps}
use Rattle.plant.proofs.Traces.{with_steps-append, with_steps-nil}
use Rattle.journal_disk.specs.Standing.{limit_of, length_of}
use Rattle.lab_state.specs.Texts.{the_texts}
use Rattle.swap_turns.specs.Running.{Stands}
use Rattle.script_text.specs.declared.command.Command.{Command}
use Rattle.script_text.specs.declared.command.Command.TheVariants as commands
use Rattle.script_text.specs.declared.reply.Reply.{Reply}
use Rattle.script_text.specs.declared.reply.Reply.TheVariants as replies
use Rattle.script_text.specs.Drills.{drill_of}
use Rattle.script_text.specs.Replies.{closes}
use Rattle.lab_core.specs.declared.fault.CoreFault.{CoreFault}
use Rattle.lab_core.specs.declared.fault.CoreFault.TheVariants as faults
use Rattle.lab_core.specs.Controller.{Control}
use Rattle.lab_tasks.specs.Tasks.{Task, Recover}
use Rattle.lab_core.specs.LabSteps.{JudgedBeside, StepOf}
use Rattle.lab_core.specs.Lists.{Ground, between as playing, undone as nothing_played}
use Rattle.lab_core.specs.Obey.{AnswersBy, Doing, ObeysCommand, StepsBy, WantsIn, between, does_command, start_of, undone, wants_of_command}
use Rattle.lab_core.specs.Sessions.{OpenSwap, Session, Closed, Open, AreOpenedBy, blames_now, names_of, Terms, open_by}
use Rattle.lab_tasks.specs.OpenNames.{is_among, name_of}
use Rattle.lab_core.specs.Tells.{opens_of}
use Rattle.lab_top.specs.declared.command.CommandFault.{CommandFault}
use Rattle.lab_judge.proofs.Fits.{fits}
use Rattle.lab_core.proofs.Obey.{now_blames, in_trace}
use Rattle.lab_core.proofs.Wanting.{command_wants, plain_wants}
use Rattle.swap_turns.specs.Lengths.{appended}
use Rattle.lab_top.specs.Pieces.{Later, WantsAfter, blames_if, blames_now_if, leaves_one, may_shut, opened, stays_open, Held, OwnStep, ButForReply}
use Rattle.lab_top.specs.Answering.{Does, HasSession, IsOpen, Makes, OwnTold, Starts, WasOpened, held_of, piece_of, reply_if, DoesEver}
use Rattle.lab_top.proofs.Stepping.{AsRead, own_answered, own_closed, own_stopped, own_stays, own_unmade, after_of, told_so}
use Rattle.lab_core.specs.Moments.{trace_in, with_more, IsLengthAt, IsLengthAfter}
use Rattle.lab_core.proofs.Composing.{works_length}
use Rattle.lab_core.specs.Commands.{DoesCommand, LabStep}
use Rattle.records_model.specs.Labs.{LabState}
use Rattle.lab_core.proofs.StopsShut.{command_shut}

-- WHAT A PLANT TELLS after more steps

pub map_both : {X : Type 0} {P Q R : X → Type 0} (o : Option X) → ((x : X) → P x → Q x → R x) → IfSome o P → IfSome o Q → IfSome o R
map_both None f h k = tt
map_both (Some x) f h k = f x h k

pub map_three : {X : Type 0} {P Q R S : X → Type 0} (o : Option X) → ((x : X) → P x → Q x → R x → S x) → IfSome o P → IfSome o Q → IfSome o R → IfSome o S
map_three None f h k m = tt
map_three (Some x) f h k m = f x h k m

-- of the trace after the steps, and of the trace before them
pub carried : (old new : Option Told) (steps : List Event) → new ≡ with_steps old steps → (P : List Event → Type 0) → IfSome new (λ t. P t.trace) → IfSome old (λ t. P (t.trace ++ steps))
carried None new steps is P h = tt
carried (Some t) new steps is P h = subst (λ (o : Option Told). IfSome o (λ u. P u.trace)) is h

pub carried_on : (old new : Option Told) (steps : List Event) → new ≡ with_steps old steps → (P : List Event → Type 0) → IfSome old (λ t. P (t.trace ++ steps)) → IfSome new (λ t. P t.trace)
carried_on None new steps is P h = subst (λ (o : Option Told). IfSome o (λ u. P u.trace)) (sym is) tt
carried_on (Some t) new steps is P h = subst (λ (o : Option Told). IfSome o (λ u. P u.trace)) (sym is) h

-- a reply that closes is not `stopped`
not_one : (reply : Reply) → closes reply ≡ true → leaves_one Closed (Some reply) ≡ false
not_one replies.Stopped is = absurd (cc is)
not_one reply is = refl

-- a reply that closes, and `stopped`, may leave the session closed
pub shuts_so : (reply : Reply) → closes reply ≡ true → may_shut (Some reply) ≡ true
shuts_so replies.Stopped shut = refl
shuts_so reply shut = shut

pub starts_shut : (old new : Option Told) (result : Result Reply CommandFault) → Starts old new result → may_shut (reply_if result) ≡ true
starts_shut old new (Ok reply) starts = ap (λ r. may_shut (Some r)) starts.0
starts_shut old new (Err fault) starts = refl

starts_blameless : (old new : Option Told) (result : Result Reply CommandFault) → Starts old new result → blames_if (reply_if result) ≡ false
starts_blameless old new (Ok reply) starts = ap (λ r. blames_if (Some r)) starts.0
starts_blameless old new (Err fault) starts = refl

pub opened_none : (exp : Option (List ℕ)) (reply : Option Reply) (swaps : List OpenSwap) (count : ℕ) → AreOpenedBy exp reply swaps (opens_of Closed) count
opened_none exp reply swaps count o there = absurd there

-- what blames no device blames none for what the command itself sent
pub blames_none : (reply : Option Reply) → blames_if reply ≡ false → blames_now_if reply ≡ false
blames_none None mild = refl
blames_none (Some reply) mild = by (blames_now reply) refl
  where
    by : (b : Bool) → blames_now reply ≡ b → blames_now reply ≡ false
    by false is = is
    by true is = absurd (cc (now_blames reply is, mild))

pub goes_closed : (plant : Seen) → HasSession (record { plant = plant; controller = None }) Closed
goes_closed plant = record { stands = tt; runs = λ some. absurd (cc some) }

-- a trace with no steps more, and what a plant tells with some
pub with_more-nil : (trace : Option (List Event)) → with_more trace [] ≡ trace
with_more-nil None = refl
with_more-nil (Some t) = ap Some (append-nil t)

pub trace_steps : (told : Option Told) (steps : List Event) → trace_in (with_steps told steps) ≡ with_more (trace_in told) steps
trace_steps None steps = refl
trace_steps (Some t) steps = refl

-- an own step of another piece with the same command, counts, reply and steps
pub own_as : (terms : Terms) (trace : Option (List Event)) (command : Command) (mark : Faults) (from other to : Session) (opening front own : List Event) (reply : Option Reply) (at : Held) (after : LabState) → opens_of other ≡ opens_of from
    → OwnStep terms trace (piece_of command mark from to opening own reply) at after → OwnStep terms trace (piece_of command mark other to front own reply) at after
own_as terms trace command mark from other to opening front own reply at after same x = record {
  sane = x.sane;
  length_is = x.length_is;
  told = x.told;
  session = x.session;
  behind = x.behind;
  is_told = x.is_told;
  step = subst (λ l. LabStep terms trace (record { length = at.length; limit = 2 ^ 32; devices = mark.devices }) at.lab (Open l) command [] (own ++ x.behind) (record { reply = x.told; lab = after; session = x.session })) (sym same) x.step;
}

if_traced : (told : Option Told) (P : Option (List Event) → Type 0) → P (trace_in told) → IfSome told (λ t. P (Some t.trace))
if_traced None P h = tt
if_traced (Some t) P h = h

-- a reply after which the session stays open
stays_so : (reply : Reply) → closes reply ≡ false → (reply ≡ replies.Stopped → ⊥) → stays_open (Some reply) ≡ true
stays_so replies.Stopped goes other = absurd (other refl)
stays_so reply goes other = ap not goes

open_never : {to : List OpenSwap} → ◌≡◌ {A = Session} (Open to) Closed → ⊥
open_never is = cc is

-- WHAT A CALL OF THE CONTROLLER LEAVES, over one trace and whatever opening was before it
module _ (terms : Terms) (mark : Faults) (old mid : Seen) (command : Command) (no_drill : drill_of command ≡ None) (c d : Control) (swaps : List OpenSwap) (is : IsOpen old c swaps) where
  abbrev Judges : Result Task Reply → Type 0
  Judges = JudgedBeside terms.rule command swaps c.lab

  abbrev Done : Doing
  Done = does_command terms.rule command mark.devices c swaps

  abbrev At : Result Reply CoreFault → Type 0
  At result = ObeysCommand terms.rule command mark.devices old mid c d swaps result

  abbrev Leaving : List OpenSwap → Result Reply CoreFault → List Event → List Event → Type 0
  Leaving to result own trace = StepsBy Done (wants_of_command terms.rule command mark.devices c swaps) (Some trace) own d.lab to result

  abbrev Does_so : (List Event → Type 0) → List OpenSwap → Result Reply CoreFault → List Event → List Event → Session → Option Reply → Type 0
  Does_so Then to result own all session reply = (before : List Event) (from : Session) (opening : List Event) → WasOpened before from opening c swaps → Leaving to result own (before ++ opening) → Then ((before ++ opening) ++ own)
      → Does terms before (piece_of command mark from session opening all reply)

  -- over what the plant tells
  told_steps : (result : Result Reply CoreFault) (at : At result) → IfSome old.told (λ t. Leaving at.to result at.obeys.0 t.trace)
  told_steps result at = if_traced old.told (λ x. StepsBy Done (wants_of_command terms.rule command mark.devices c swaps) x at.obeys.0 d.lab at.to result) at.obeys.2

  -- OVER EVERY PLANT what the controller did is a lab step
  abbrev trace : Option (List Event)
  trace = trace_in old.told

  abbrev Ever : List Event → Session → Option Reply → Type 0
  Ever own to reply = DoesEver terms trace command mark c swaps own to reply

  length_here : IsLengthAfter trace [] (2 ^ 32) (length_of c.journal)
  length_here = record {
    told = in_trace old.told (λ t. IsLengthAt (t ++ []) (length_of c.journal)) (some_weaker old.told _ _ (λ t n. subst (λ l. IsLengthAt l (length_of c.journal)) (sym (append-nil t.trace)) n) (works_length old c swaps is.works));
    within = omega (arith, is.works.working.work.room.few, is.limit);
  }

  ever : (own steps : List Event) (to : Session) (reply told : Option Reply) (session : Session) (behind : List Event) (lab : LabState) → ButForReply reply to told session behind → steps ≡ own ++ behind → Done trace steps (after_of told lab session) → Ever own to reply
  ever own steps to reply told session behind lab but are done = (
    lab,
    record {
      sane = is.works.working.work.sane;
      length_is = length_here;
      told = told;
      session = session;
      behind = behind;
      is_told = but;
      step = subst (λ (drill : Option Drill). StepOf drill (DoesCommand terms.rule command (with_more trace []) (record { length = length_of c.journal; limit = 2 ^ 32; devices = mark.devices })) terms c.lab (Open swaps) [] (own ++ behind) (after_of told lab session)) (sym no_drill) (
        refl,
        subst (λ n. DoesCommand terms.rule command (with_more trace []) (record { length = length_of c.journal; limit = n; devices = mark.devices }) swaps c.lab (own ++ behind) (after_of told lab session)) is.limit
            (subst (λ l. DoesCommand terms.rule command (with_more trace []) (start_of mark.devices c swaps).set swaps c.lab l (after_of told lab session)) are
            (subst (λ o. DoesCommand terms.rule command o (start_of mark.devices c swaps).set swaps c.lab steps (after_of told lab session)) (sym (with_more-nil trace)) done)),
      );
    },
  )

  -- by what holds of each trace that is an opening after another one
  own_by : (result : Result Reply CoreFault) (at : At result) (new : Option Told) (more : List Event) (session : Session) (reply : Option Reply) → new ≡ with_steps mid.told more → (Then : List Event → Type 0) → IfSome mid.told (λ t. Then t.trace)
      → Does_so Then at.to result at.obeys.0 (at.obeys.0 ++ more) session reply → Ever (at.obeys.0 ++ more) session reply → OwnTold terms old.told new command mark c swaps session reply
  own_by result at new more session reply is Then then does it =
      let told = at.obeys in (
        told.0 ++ more,
        is ∙ ap (λ o. with_steps o more) told.1 ∙ with_steps-append old.told told.0 more,
        map_both old.told (λ t obeys here before from opening same w. does before from opening w (subst (Leaving at.to result told.0) same obeys) (subst (λ l. Then (l ++ told.0)) same here)) (told_steps result at) (carried old.told mid.told told.0 told.1 Then then),
        it,
      )

  -- with no step after
  own_alone : (result : Result Reply CoreFault) (at : At result) (session : Session) (reply : Option Reply) → (Then : List Event → Type 0) → IfSome mid.told (λ t. Then t.trace) → Does_so Then at.to result at.obeys.0 at.obeys.0 session reply
      → Ever (at.obeys.0 ++ []) session reply → OwnTold terms old.told mid.told command mark c swaps session reply
  own_alone result at session reply Then then does it =
      own_by result at mid.told [] session reply (with_steps-nil mid.told) Then then
      (λ before from opening w obeys here. subst (λ l. Does terms before (piece_of command mark from session opening l reply)) (sym (append-nil at.obeys.0)) (does before from opening w obeys here))
      it

  -- its steps, with no step after
  as_are : (own : List Event) → own ≡ (own ++ []) ++ []
  as_are own = sym (append-nil (own ++ []) ∙ append-nil own)

  abbrev AtWorkHere : List Event → Type 0
  AtWorkHere trace = Stands the_texts trace d.journal d.lab

  -- the journal is longer by what it appended
  held_now : (reply : Reply) (at : At (Ok reply)) → closes reply ≡ false → held_of d ≡ record { lab = d.lab; length = length_of c.journal + appended (at.obeys.0 ++ []) }
  held_now reply at goes =
      let long : length_of d.journal ≡ length_of c.journal + appended (at.obeys.0 ++ []) = at.longer (ap not goes) ∙ ap (λ l. length_of c.journal + appended l) (sym (append-nil at.obeys.0)) in
      ap (λ (n : ℕ). let held : Held = record { lab = d.lab; length = n } in held) long

  -- it goes on
  pub makes_on : (reply : Reply) → At (Ok reply) → closes reply ≡ false → limit_of d.journal ≡ 2 ^ 32 → mid.stopped ≡ false → Makes terms mark command old c swaps (record { plant = mid; controller = Some d }) (Some reply)
  unfolding own_alone own_by ever
  makes_on reply at goes limit runs =
      let works = at.works (ap not goes) in
      record {
        to = Open at.to;
        own = own_alone (Ok reply) at (Open at.to) (Some reply) AtWorkHere works.working.work.stands
            (λ before from opening w o stands.
            own_answered terms mark before from opening c swaps w command no_drill at.obeys.0 o.sound d at.to reply (subst (λ b. AnswersBy Done (Some (before ++ opening)) at.obeys.0 reply d.lab at.to b) goes o.ends) stands)
            (ever (at.obeys.0 ++ []) at.obeys.0 (Open at.to) (Some reply) (Some reply) (Open at.to) [] d.lab (told_so (Some reply) (Open at.to)) (as_are at.obeys.0) (subst (λ b. AnswersBy Done trace at.obeys.0 reply d.lab at.to b) goes at.obeys.2.ends));
        held = held_now reply at goes;
        shut = λ shut. absurd (cc shut);
        closed = λ shut. let open_now : stays_open (Some reply) ≡ true = stays_so reply goes (λ stops. open_never (command_shut terms command trace (start_of mark.devices c swaps).set swaps c.lab at.obeys.0 (open_by reply d.lab at.to)
            (subst (λ b. AnswersBy Done trace at.obeys.0 reply d.lab at.to b) goes at.obeys.2.ends) (ap (λ r. Some r) stops))) in absurd (cc (open_now, shut));
        device = at.device;
        here = at.here;
        opened = at.opened;
        goes_on = record { stands = record { works = works; limit = limit }; runs = λ some. runs };
        wants = λ none. absurd (cc none);
      }

  -- a reply closes it
  pub makes_off : (reply : Reply) → At (Ok reply) → closes reply ≡ true → IfSome mid.told (λ t. AsRead t.trace) → Makes terms mark command old c swaps (record { plant = mid; controller = None }) (Some reply)
  makes_off reply at shut there = record {
    to = Closed;
    own = own_alone (Ok reply) at Closed (Some reply) AsRead there
        (λ before from opening w o here.
        own_closed terms mark before from opening c swaps w command no_drill at.obeys.0 o.sound reply (not_one reply shut) (subst (λ b. AnswersBy Done (Some (before ++ opening)) at.obeys.0 reply d.lab at.to b) shut o.ends) here)
        (let leaves = subst (λ b. AnswersBy Done trace at.obeys.0 reply d.lab at.to b) shut at.obeys.2.ends in
        ever (at.obeys.0 ++ []) (at.obeys.0 ++ []) Closed (Some reply) (Some reply) Closed [] leaves.lab (told_so (Some reply) Closed) (sym (append-nil (at.obeys.0 ++ []))) (leaves.done [] []));
    held = tt;
    shut = λ closed. shuts_so reply shut;
    closed = λ closed. refl;
    device = at.device;
    here = at.here;
    opened = opened_none (name_of command) (Some reply) swaps mark.devices;
    goes_on = goes_closed mid;
    wants = λ none. absurd (cc none);
  }

  -- the plant stopped
  own_stopped_told : (new : Option Told) (result : Result Reply CommandFault) → At (Err faults.Stopped) → Starts mid.told new result → IfSome mid.told (λ t. AsRead t.trace) → OwnTold terms old.told new command mark c swaps Closed (reply_if result)
  own_stopped_told new (Ok reply) at starts there =
      let a = starts.1.0 in
      let b = starts.1.1 in
      subst (λ r. OwnTold terms old.told new command mark c swaps Closed (Some r)) (sym starts.0)
      (own_by (Err faults.Stopped) at new (Restarted a b ∷ []) Closed (Some replies.Stopped) starts.1.2 (λ l. ArePossible l a b) starts.1.3
      (λ before from opening w o here. own_stopped terms mark before from opening c swaps w command no_drill at.obeys.0 o.sound o.ends a b here)
      (ever (at.obeys.0 ++ Restarted a b ∷ []) (at.obeys.0 ++ Restarted a b ∷ []) Closed (Some replies.Stopped) (Some replies.Stopped) Closed [] at.obeys.2.ends.lab (told_so (Some replies.Stopped) Closed)
      (sym (append-nil (at.obeys.0 ++ Restarted a b ∷ []))) (at.obeys.2.ends.done a b)))
  own_stopped_told new (Err fault) at starts there =
      subst (λ n. OwnTold terms old.told n command mark c swaps Closed None) (sym starts.1)
      (own_alone (Err faults.Stopped) at Closed None AsRead there (λ before from opening w o here. own_stays terms mark before from opening c swaps w command no_drill at.obeys.0 o.sound o.ends here)
      (ever (at.obeys.0 ++ []) (at.obeys.0 ++ Restarted [] [] ∷ []) Closed None (Some replies.Stopped) Closed (Restarted [] [] ∷ []) at.obeys.2.ends.lab (inr ([], [], refl)) (λ i. sym (append-nil at.obeys.0) i ++ Restarted [] [] ∷ []) (at.obeys.2.ends.done [] [])))

  pub makes_stopped : (new : Seen) (result : Result Reply CommandFault) → At (Err faults.Stopped) → Starts mid.told new.told result → IfSome mid.told (λ t. AsRead t.trace) → (is_some (reply_if result) ≡ false → new.stopped ≡ true)
      → Makes terms mark command old c swaps (record { plant = new; controller = None }) (reply_if result)
  makes_stopped new result at starts there halts = record {
    to = Closed;
    own = own_stopped_told new.told result at starts there;
    held = tt;
    shut = λ closed. starts_shut mid.told new.told result starts;
    closed = λ closed. refl;
    device = λ blamed. absurd (cc (starts_blameless mid.told new.told result starts, blamed));
    here = λ blamed. absurd (cc (blames_none (reply_if result) (starts_blameless mid.told new.told result starts), blamed));
    opened = opened_none (name_of command) (reply_if result) swaps mark.devices;
    goes_on = goes_closed new;
    wants = λ none runs. absurd (cc (halts none, runs));
  }

  abbrev here_ground : Ground
  here_ground = record { length = length_of c.journal; limit = limit_of c.journal; devices = mark.devices }

  -- memory was wanting
  pub makes_not : At (Err faults.Memory) → Makes terms mark command old c swaps (record { plant = mid; controller = None }) None
  unfolding own_alone own_by
  makes_not at = record {
    to = Closed;
    own = own_alone (Err faults.Memory) at Closed None AtWorkHere (at.works refl).working.work.stands (λ before from opening w o stands. own_unmade terms mark before from opening c swaps w command no_drill at.obeys.0 o.sound d (command_wants terms.rule mark.devices c swaps (Some (before ++ opening)) at.obeys.0 d.lab at.to command o.ends) stands)
        (ever (at.obeys.0 ++ []) at.obeys.0 Closed None None Closed [] d.lab (told_so None Closed) (as_are at.obeys.0) (command_wants terms.rule mark.devices c swaps trace at.obeys.0 d.lab at.to command at.obeys.2.ends));
    held = tt;
    shut = λ closed. refl;
    closed = λ closed. refl;
    device = λ blamed. absurd (cc blamed);
    here = λ blamed. absurd (cc blamed);
    opened = opened_none (name_of command) None swaps mark.devices;
    goes_on = goes_closed mid;
    wants = λ none runs. some_weaker old.told _ _ (λ t o. subst (WantsAfter terms.rule command t.trace here_ground c.lab swaps) (sym (append-nil at.obeys.0)) (by t.trace at.obeys.0 command refl o.ends)) (told_steps (Err faults.Memory) at);
  }
    where
      plain : (trace own : List Event) (asked : Command) → WantsIn (JudgedBeside terms.rule asked swaps c.lab) (start_of mark.devices c swaps) own d.lab at.to → WantsAfter terms.rule asked trace here_ground c.lab swaps own
      plain trace own asked (undone nothing lab_is to_is) = inl nothing
      plain trace own asked (between judged first to_is) = inr (inl (fits c.lab (is_among (names_of swaps) (name_of asked)) (length swaps) terms.rule asked (Ok Recover) judged, (d.lab, first)))

      by : (trace own : List Event) (asked : Command) → command ≡ asked → wants_of_command terms.rule asked mark.devices c swaps (Some trace) own d.lab at.to → WantsAfter terms.rule asked trace here_ground c.lab swaps own
      by trace own (commands.Play exp from until lines text) is (nothing_played nothing lab_is to_is) = inl nothing
      by trace own (commands.Play exp from until lines text) is (playing start place judged past) = inr (inr (start, place, judged, (d.lab, at.to, past)))
      by trace own (commands.Batch moment lines text) is (nothing_played nothing lab_is to_is) = inl nothing
      by trace own (commands.Batch moment lines text) is (playing start place judged past) = inr (inr (start, place, judged, (d.lab, at.to, past)))
      by trace own commands.Audit is wants = inl wants.0
      by trace own asked is wants = plain trace own asked (plain_wants terms.rule mark.devices c swaps (Some trace) own d.lab at.to asked refl wants)

-- HOW IT ENDED
pub runs_if : (result : Result Reply CommandFault) (halts : Bool) → OnOk result (halts ≡ false) → is_some (reply_if result) ≡ true → halts ≡ false
runs_if (Ok reply) halts runs some = runs
runs_if (Err fault) halts runs some = absurd (cc some)

pub halts_if : (result : Result Reply CommandFault) (halts : Bool) → OnErr result (halts ≡ true) → is_some (reply_if result) ≡ false → halts ≡ true
halts_if (Ok reply) halts stops none = absurd (cc none)
halts_if (Err fault) halts stops none = stops

-- where a reply is told, the plant is not stopped
pub ok_runs : (reply : Reply) (halts : Bool) → (let result : Result Reply CoreFault = Ok reply in IsErrOf result faults.Stopped ↔ IsTrue halts) → halts ≡ false
ok_runs reply true both = let never : (let result : Result Reply CoreFault = Ok reply in result ≡ Err faults.Stopped) = both.1 refl in absurd (cc never)
ok_runs reply false both = refl

pub later_same : (a b now : Faults) → a.disk ≤ b.disk → a.devices ≤ b.devices → now ≡ b → Later a now
later_same a b now disk devices same = record { disk = subst (λ (f : Faults). a.disk ≤ f.disk) (sym same) disk; devices = subst (λ (f : Faults). a.devices ≤ f.devices) (sym same) devices }

pub rose_same : (a : ℕ) (b now : Faults) → Rose a b.disk → now ≡ b → Rose a now.disk
rose_same a b now rose same = subst (λ (f : Faults). Rose a f.disk) (sym same) rose
