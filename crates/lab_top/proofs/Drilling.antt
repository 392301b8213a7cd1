-- A drill is planned, and all else stays as it was.
use Rattle.std.proofs.Common.{◌≡◌, ◌+◌, inl, inr, ℕ, ◌^◌, arith, Bool, true, false, List, [], ◌++◌, Option, Some, None, Result, Ok, Err, refl, sym, ap, subst, ◌∙◌}
use Rattle.std.specs.Prelude.{IfSome, OnErr, is_some, if◌then◌else◌}
use Rattle.std.proofs.lemmas.List.{append-nil}
use Rattle.lab_base.proofs.Tests.{some_weaker}
use Rattle.plant.specs.declared.drill.Drill.{Drill}
use Rattle.plant.specs.declared.moment.Faults.{Faults}
use Rattle.plant.specs.Events.{Event}
use Rattle.plant.specs.Seen.{Seen}
use Rattle.plant.specs.Told.{Told, with_drill, with_mark, with_steps}
use Rattle.plant.proofs.Traces.{with_steps-nil}
use Rattle.records_model.specs.Labs.{LabState, at_first}
use Rattle.records_model.specs.Works.{IsSound}
use Rattle.swap_turns.proofs.Stood.{sound_stands}
use Rattle.lab_state.specs.Texts.{the_texts}
use Rattle.swap_turns.specs.Running.{RunsIn, Stands}
use Rattle.script_text.specs.Drills.{drill_of}
use Rattle.script_text.specs.Replies.{blames_device, closes}
use Rattle.script_text.specs.declared.command.Command.{Command}
use Rattle.script_text.specs.declared.reply.Reply.{Reply}
use Rattle.script_text.specs.declared.reply.Reply.TheVariants as replies
use Rattle.lab_core.specs.Controller.{Control, WorksWith}
use Rattle.lab_core.specs.Commands.{DoesCommand}
use Rattle.lab_core.specs.LabSteps.{Drills, StepOf, is_planned, is_refused, wants_memory}
use Rattle.lab_core.specs.Moments.{AllStandFor, IsLabAt, IsLengthAt, trace_in, with_more}
use Rattle.lab_core.specs.Sessions.{OpenSwap, Session, Closed, Open, AreOpenedBy, IsSince, ends_swap, name_in, Terms}
use Rattle.lab_tasks.specs.OpenNames.{name_of}
use Rattle.lab_core.specs.Tells.{opens_of}
use Rattle.lab_top.specs.declared.command.CommandFault.{CommandFault}
use Rattle.lab_top.specs.declared.command.CommandFault.TheVariants as faults
use Rattle.lab_top.specs.Answering.{Begins, Ends, HasSession, Moment, Plans, StandsAt, piece_of, held_first, held_of, reply_if, HandsLab}
use Rattle.swap_turns.specs.Lengths.{appended}
use Rattle.lab_top.specs.Pieces.{Finds, FirstLab, IsDone, IsPlannedBy, StepsFrom, WantsOnly, reading as in_reading, blames_if, closes_if, leaves_one, stays_open, with_drill_if, GoesFrom, Held, Piece, held_after}
use Rattle.lab_top.proofs.HandedOn.{ends_of}
use Rattle.lab_top.proofs.Obeyed.{blames_none, later_same, map_both}
use Rattle.lab_top.proofs.Stepping.{AsRead, ImagesAt, after_of, all_some, done_at, lab_length, not_early, standing_all, standing_lab, told_so}

-- THE STEP OF A DRILL over one trace: it has no steps, and its reply, if it has one, leaves the session as it was
abbrev Stays : Terms → Session → Session → Option Reply → Type 0
Stays terms from to reply = (s : LabState) → Drills terms.takes s from [] (after_of reply s to)

module _ (terms : Terms) (trace : List Event) (command : Command) (mark : Faults) (drill : Drill) (is : drill_of command ≡ Some drill) (possible : AsRead trace) (sound : IsSound the_texts trace) (from to : Session) (reply : Option Reply) (stays : Stays terms from to reply) where
  none : trace ≡ trace ++ []
  none = sym (append-nil trace)

  drill_steps : (s : LabState) → StepsFrom terms trace (piece_of command mark from to [] [] reply) s s
  drill_steps s =
      let lab = sound_stands the_texts trace _ _ possible sound in
      let n = subst (λ l. (k : ℕ) × IsLengthAt l k) none (lab_length trace lab.0 lab.1) in
      record {
        length = n.0;
        length_is = n.1;
        told = reply;
        session = to;
        behind = [];
        is_told = told_so reply to;
        step = subst (λ (d : Option Drill). StepOf d (DoesCommand terms.rule command (Some (trace ++ [])) (record { length = n.0; limit = 2 ^ 32; devices = mark.devices })) terms s from [] [] (after_of reply s to)) (sym is) (refl, stays s);
      }

  images : (one : Bool) (s : LabState) → (one ≡ true → AllStandFor trace s) → ImagesAt terms trace (piece_of command mark from to [] [] reply) one trace s
  images true s all = all refl
  images false s all = λ a b at. let lab = sound_stands the_texts trace a b at sound in (lab.0, lab.0, record { a = a; b = b; possible = at; stand = lab.1 }, lab.1, drill_steps lab.0)

  pub drill_done : (s : LabState) → IsLabAt trace s → (leaves_one to reply ≡ true → AllStandFor trace s) → IsDone terms trace (piece_of command mark from to [] [] reply)
  drill_done s at all =
      done_at terms trace (piece_of command mark from to [] [] reply) trace (append-nil trace) s s (subst (λ b. FirstLab b trace s) (sym (not_early from [] refl)) at) (drill_steps s) (λ opens. absurd (cc (is, opens.no_drill))) sound at
      (images (leaves_one to reply) s all)

-- with a reply, from a session of either kind
abbrev StandsOver : List Event → Option Control → Type 0
StandsOver trace controller = IfSome controller (λ c. Stands the_texts trace c.journal c.lab)

module _ (terms : Terms) (command : Command) (mark : Faults) (drill : Drill) (is : drill_of command ≡ Some drill) (reply : Reply) (other : leaves_one Closed (Some reply) ≡ false) (stays : (from : Session) → Stays terms from from (Some reply)) where
  replied_over : (trace : List Event) (plant : Seen) (controller : Option Control) (from : Session) → StandsAt plant controller from → StandsOver trace controller → AsRead trace → IsSound the_texts trace → IsDone terms trace (piece_of command mark from from [] [] (Some reply))
  replied_over trace plant None Closed at stands possible sound =
      let lab = sound_stands the_texts trace _ _ possible sound in
      drill_done terms trace command mark drill is possible sound Closed Closed (Some reply) (stays Closed) lab.0 lab.1 (λ one. absurd (cc (other, one)))
  replied_over trace plant (Some c) (Open swaps) at stands possible sound =
      drill_done terms trace command mark drill is possible sound (Open swaps) (Open swaps) (Some reply) (stays (Open swaps)) c.lab (standing_lab trace c stands) (λ one. standing_all trace c stands)
  replied_over trace plant None (Open swaps) at stands possible sound = absurd at
  replied_over trace plant (Some c) Closed at stands possible sound = absurd at

silent_over : (terms : Terms) (command : Command) (mark : Faults) (drill : Drill) → drill_of command ≡ Some drill → (trace : List Event) (from : Session) → AsRead trace → IsSound the_texts trace → IsDone terms trace (piece_of command mark from Closed [] [] None)
silent_over terms command mark drill is trace from possible sound =
    let lab = sound_stands the_texts trace _ _ possible sound in
    drill_done terms trace command mark drill is possible sound from Closed None (λ s. wants_memory (record { nothing = refl; after_is = refl })) lab.0 lab.1 (λ one. absurd (cc one))

-- AN OPEN CONTROLLER STAYS OPEN
stands_over : (plant : Seen) (controller : Option Control) (from : Session) → StandsAt plant controller from → IfSome plant.told (λ t. StandsOver t.trace controller)
stands_over plant None Closed at = all_some plant.told (λ t. tt)
stands_over plant (Some c) (Open swaps) at = at.works.working.work.stands
stands_over plant None (Open swaps) at = absurd at
stands_over plant (Some c) Closed at = absurd at

-- with what the plant tells, where that is of the same trace
abbrev TellAlike : Option Told → Option Told → Type 1
TellAlike old new = (P : List Event → Type 0) → IfSome old (λ t. P t.trace) → IfSome new (λ t. P t.trace)

works_alike : (old new : Seen) (c : Control) (swaps : List OpenSwap) → TellAlike old.told new.told → new.faults ≡ old.faults → WorksWith old c swaps → WorksWith new c swaps
works_alike old new c swaps alike same w = record {
  pairs = w.pairs;
  are = w.are;
  working = record {
    work = record { sane = w.working.work.sane; swaps = w.working.work.swaps; room = w.working.work.room; stands = alike (λ l. Stands the_texts l c.journal c.lab) w.working.work.stands };
    differ = w.working.differ;
    each = w.working.each;
    running = λ o there. alike (λ l. IsSound the_texts l → RunsIn c.lab o.0 l) (w.working.running o there);
  };
  holds = w.holds;
  since = λ o there. subst (λ (f : Faults). IsSince f.devices o) (sym same) (w.since o there);
}

pub stands_alike : (old new : Seen) (controller : Option Control) (from : Session) → TellAlike old.told new.told → new.faults ≡ old.faults → StandsAt old controller from → StandsAt new controller from
stands_alike old new None Closed alike same at = tt
stands_alike old new (Some c) (Open swaps) alike same at = record { works = works_alike old new c swaps alike same at.works; limit = at.limit }
stands_alike old new None (Open swaps) alike same at = absurd at
stands_alike old new (Some c) Closed alike same at = absurd at

drill_alike : (told : Option Told) (drill : Drill) → TellAlike told (with_drill told drill)
drill_alike None drill P h = tt
drill_alike (Some t) drill P h = h

-- a moment that is marked
pub mark_alike : (told : Option Told) (faults : Faults) → TellAlike told (with_mark told faults)
mark_alike None faults P h = tt
mark_alike (Some t) faults P h = h

pub goes_on_marked : (old mid : Seen) (controller : Option Control) (from : Session) → mid ≡ record old { told = with_mark old.told old.faults } → HasSession (record { plant = old; controller = controller }) from → HasSession (record { plant = mid; controller = controller }) from
goes_on_marked old mid controller from is goes =
    subst (λ plant. HasSession (record { plant = plant; controller = controller }) from) (sym is)
    (record { stands = stands_alike old (record old { told = with_mark old.told old.faults }) controller from (mark_alike old.told old.faults) refl goes.stands; runs = goes.runs })

-- the session after a command that leaves it as it was, and has that reply or none
abbrev kept_by : Option Reply → Session → Session
kept_by None from = Closed
kept_by (Some reply) from = from

-- WHAT A DRILL BEGAN
module _ (terms : Terms) (command : Command) (mark : Faults) (drill : Drill) (is : drill_of command ≡ Some drill) (old : Seen) (new : Option Told) (controller : Option Control) (from : Session) (at : StandsAt old controller from)
    (possible : IfSome old.told (λ t. AsRead t.trace)) where
  no_such : {X : Type 0} → drill_of command ≡ None → X
  no_such none = absurd (cc (is, none))

  found : (to : Session) (reply : Option Reply) (trace : List Event) → (is_some reply ≡ true → to ≡ from) → Finds (drill_of command) from trace (piece_of command mark from to [] [] reply)
  found to reply trace same = subst (λ (d : Option Drill). Finds d from trace (piece_of command mark from to [] [] reply)) (sym is) (refl, refl, same)

  begun_with : (reply : Reply) (planned : Bool) → leaves_one Closed (Some reply) ≡ false → stays_open (Some reply) ≡ true → ((s : Session) → Stays terms s s (Some reply)) → IsPlannedBy terms (Some drill) planned (Some reply)
      → new ≡ with_drill_if (with_steps old.told []) (if planned then drill_of command else None) → Begins terms command mark old.told new from from (Some reply)
  begun_with reply planned other goes stays by told = record {
    opening = [];
    own = [];
    planned = planned;
    told = told;
    planned_by = subst (λ (d : Option Drill). IsPlannedBy terms d planned (Some reply)) (sym is) by;
    is_piece = map_both old.told (λ t stands there. record {
      readable = there;
      finds = found from (Some reply) t.trace (λ some. refl);
      leaves = λ shut. absurd (cc (goes, shut));
      shuts = λ none. no_such none;
      steps = λ none. no_such none;
      leads = λ none. no_such none;
      done = λ sound. replied_over terms command mark drill is reply other stays t.trace old controller from at stands there sound;
    }) (stands_over old controller from at) possible;
  }

  begun_silent : new ≡ old.told → Begins terms command mark old.told new from Closed None
  begun_silent told = record {
    opening = [];
    own = [];
    planned = false;
    told = told ∙ with_steps-nil old.told;
    planned_by = subst (λ (d : Option Drill). IsPlannedBy terms d false None) (sym is) (λ none. absurd (cc none));
    is_piece = some_weaker old.told _ _ (λ t there. record {
      readable = there;
      finds = found Closed None t.trace (λ some. absurd (cc some));
      leaves = λ shut. refl;
      shuts = λ none. no_such none;
      steps = λ none. no_such none;
      leads = λ none. no_such none;
      done = λ sound. silent_over terms command mark drill is t.trace from there sound;
    }) possible;
  }

  -- the session after it is that before it, where it has a reply; and nothing is done
  begun_idle : (result : Result Reply CommandFault) → Plans terms.takes drill old.told new result → (b : Begins terms command mark old.told new from (kept_by (reply_if result) from) (reply_if result)) × (b.own ≡ [])
  unfolding begun_with begun_silent
  begun_idle (Ok reply) (inl planned) =
      subst (λ r. (b : Begins terms command mark old.told new from from (Some r)) × (b.own ≡ [])) (sym planned.0) (
        begun_with replies.Planned true refl refl (λ s lab. is_planned planned.1 refl refl) (refl, planned.1)
            (planned.2 ∙ ap (λ (o : Option Told). with_drill o drill) (with_steps-nil old.told) ∙ ap (λ (d : Option Drill). with_drill_if (with_steps old.told []) d) (sym is)),
        refl,
      )
  begun_idle (Ok reply) (inr refused) =
      subst (λ r. (b : Begins terms command mark old.told new from from (Some r)) × (b.own ≡ [])) (sym refused.0)
      (begun_with replies.NoDrill false refl refl (λ s lab. is_refused refused.1 refl refl) (refl, refused.1) (refused.2 ∙ with_steps-nil old.told), refl)
  begun_idle (Err fault) wants = (begun_silent wants.1, refl)

  pub begun_drill : (result : Result Reply CommandFault) → Plans terms.takes drill old.told new result → Begins terms command mark old.told new from (kept_by (reply_if result) from) (reply_if result)
  begun_drill result plans = (begun_idle result plans).0

  nothing_done : (result : Result Reply CommandFault) (plans : Plans terms.takes drill old.told new result) → (begun_drill result plans).own ≡ []
  unfolding begun_drill
  nothing_done result plans = (begun_idle result plans).1

  -- memory was wanting, and nothing was done
  pub drill_wants : (result : Result Reply CommandFault) (plans : Plans terms.takes drill old.told new result) → is_some (reply_if result) ≡ false
      → IfSome old.told (λ t. WantsOnly terms t.trace (piece_of command mark from (kept_by (reply_if result) from) (begun_drill result plans).opening (begun_drill result plans).own (reply_if result)))
  unfolding begun_drill begun_idle begun_silent
  drill_wants (Ok reply) plans none = absurd (cc none)
  drill_wants (Err fault) plans none = some_weaker old.told _ _ (λ t there. in_reading refl refl) possible

-- what the plant tells is of the same trace
plans_alike : (terms : Terms) (drill : Drill) (old new : Option Told) (result : Result Reply CommandFault) → Plans terms.takes drill old new result → TellAlike old new
plans_alike terms drill old new (Ok reply) (inl planned) P h = subst (λ (o : Option Told). IfSome o (λ t. P t.trace)) (sym planned.2) (drill_alike old drill P h)
plans_alike terms drill old new (Ok reply) (inr refused) P h = subst (λ (o : Option Told). IfSome o (λ t. P t.trace)) (sym refused.2) h
plans_alike terms drill old new (Err fault) wants P h = subst (λ (o : Option Told). IfSome o (λ t. P t.trace)) (sym wants.1) h

-- NO REPLY TO A DRILL closes the controller, or blames a device; and where there is none, memory is wanting
mild : (terms : Terms) (drill : Drill) (old new : Option Told) (result : Result Reply CommandFault) → Plans terms.takes drill old new result → (closes_if (reply_if result) ≡ false) × (blames_if (reply_if result) ≡ false) × OnErr result (result ≡ Err faults.Memory)
mild terms drill old new (Ok reply) (inl planned) = (ap closes planned.0, ap blames_device planned.0, tt)
mild terms drill old new (Ok reply) (inr refused) = (ap closes refused.0, ap blames_device refused.0, tt)
mild terms drill old new (Err fault) wants = (refl, refl, ap (λ f. let r : Result Reply CommandFault = Err f in r) wants.0)

-- and it leaves the session open
drill_stays : (terms : Terms) (drill : Drill) (old new : Option Told) (result : Result Reply CommandFault) → Plans terms.takes drill old new result → is_some (reply_if result) ≡ true → stays_open (reply_if result) ≡ true
drill_stays terms drill old new (Ok reply) (inl planned) some = ap (λ r. stays_open (Some r)) planned.0
drill_stays terms drill old new (Ok reply) (inr refused) some = ap (λ r. stays_open (Some r)) refused.0
drill_stays terms drill old new (Err fault) wants some = absurd (cc some)

drill_ends : (terms : Terms) (drill : Drill) (old new : Option Told) (result : Result Reply CommandFault) → Plans terms.takes drill old new result → (name : List ℕ) → ends_swap (reply_if result) name ≡ false
drill_ends terms drill old new (Ok reply) (inl planned) name = ap (λ r. ends_swap (Some r) name) planned.0
drill_ends terms drill old new (Ok reply) (inr refused) name = ap (λ r. ends_swap (Some r) name) refused.0
drill_ends terms drill old new (Err fault) wants name = refl

kept_shut : (reply : Option Reply) (from : Session) → (is_some reply ≡ true → stays_open reply ≡ true) → stays_open reply ≡ false → kept_by reply from ≡ Closed
kept_shut None from stays shut = refl
kept_shut (Some reply) from stays shut = absurd (cc (stays refl, shut))

kept_so : (reply : Option Reply) (from : Session) → is_some reply ≡ true → from ≡ kept_by reply from
kept_so None from some = absurd (cc some)
kept_so (Some reply) from some = refl

opened_kept : (exp : Option (List ℕ)) (reply : Option Reply) (from : Session) (count : ℕ) → ((name : List ℕ) → ends_swap reply name ≡ false) → AreOpenedBy exp reply (opens_of from) (opens_of (kept_by reply from)) count
opened_kept exp None from count stays o there = absurd there
opened_kept exp (Some reply) from count stays o there = inr (stays (name_in o), (o, there, refl, refl))

-- the lab is left, and the journal
held_at : Option Control → Held
held_at None = held_first
held_at (Some c) = held_of c

held_kept : (k : Option Control) → IfSome k (λ c. held_at k ≡ held_of c)
unfolding held_at
held_kept None = tt
held_kept (Some c) = refl

-- no record is appended
nothing_after : (piece : Piece) (held : Held) → piece.own ≡ [] → held ≡ held_after piece held held.lab
nothing_after piece held none =
    let long : held.length ≡ held.length + appended piece.own = omega (arith, ap (λ l. appended l) none) in
    ap (λ (n : ℕ). let h : Held = record { lab = held.lab; length = n } in h) long

hands_drill : (terms : Terms) (command : Command) (drill : Drill) → drill_of command ≡ Some drill → (told : Option Told) (piece : Piece) → piece.command ≡ command → piece.own ≡ [] → (is_some piece.reply ≡ true → piece.to ≡ piece.from) → (old new : Option Control) → new ≡ old → HandsLab terms told piece old new
hands_drill terms command drill is told piece of none keeps old new same = record {
  at = held_at old;
  after = (held_at old).lab;
  first = held_kept old;
  goes = subst (λ (d : Option Drill). GoesFrom d terms (with_more (trace_in told) piece.opening) piece (held_at old) (held_at old).lab) (sym (ap drill_of of ∙ is)) (refl, keeps);
  last = subst (λ (k : Option Control). IfSome k (λ c. held_of c ≡ held_after piece (held_at old) (held_at old).lab)) (sym same) (some_weaker old _ _ (λ c h. sym h ∙ nothing_after piece (held_at old) none) (held_kept old));
}

pub ends_drill : (terms : Terms) (command : Command) (drill : Drill) → drill_of command ≡ Some drill → (old new : Moment) (result : Result Reply CommandFault) → Plans terms.takes drill old.plant.told new.plant.told result → new.plant.faults ≡ old.plant.faults → new.plant.stopped ≡ old.plant.stopped
    → new.controller ≡ old.controller → (from : Session) → HasSession old from → IfSome old.plant.told (λ t. AsRead t.trace) → Ends terms command old new from result
ends_drill terms command drill is old new result plans count still kept from goes_on possible =
    let mild_so = mild terms drill old.plant.told new.plant.told result plans in
    ends_of terms command old new from (kept_by (reply_if result) from) result
    (begun_drill terms command old.plant.faults drill is old.plant new.plant.told old.controller from goes_on.stands possible result plans)
    (hands_drill terms command drill is old.plant.told (piece_of command old.plant.faults from (kept_by (reply_if result) from) _ _ (reply_if result)) refl
    (nothing_done terms command old.plant.faults drill is old.plant new.plant.told old.controller from goes_on.stands possible result plans) (λ some. sym (kept_so (reply_if result) from some)) old.controller new.controller kept)
    (kept_shut (reply_if result) from (drill_stays terms drill old.plant.told new.plant.told result plans))
    (later_same old.plant.faults old.plant.faults new.plant.faults (omega arith) (omega arith) count)
    (λ shut. absurd (cc (mild_so.0, shut)))
    (λ blamed. absurd (cc (mild_so.1, blamed)))
    (λ blamed. absurd (cc (blames_none (reply_if result) mild_so.1, blamed)))
    (opened_kept (name_of command) (reply_if result) from old.plant.faults.devices (drill_ends terms drill old.plant.told new.plant.told result plans))
    (λ some was. still ∙ was)
    mild_so.2
    (λ some. subst (HasSession new) (kept_so (reply_if result) from some) (record {
      stands = subst (λ (k : Option Control). StandsAt new.plant k from) (sym kept) (stands_alike old.plant new.plant old.controller from (plans_alike terms drill old.plant.told new.plant.told result plans) count goes_on.stands);
      runs = λ open_now. still ∙ goes_on.runs (ap is_some (sym kept) ∙ open_now);
    }))
    (λ none going. drill_wants terms command old.plant.faults drill is old.plant new.plant.told old.controller from goes_on.stands possible result plans none)
