-- The reply to a play tells what is so in the lab after it.
use Rattle.std.proofs.Common.{◌≡◌, arith, ℕ, Bool, true, false, ◌||◌, is_some, List, [], ◌∷◌, length, Option, Some, None, Result, Ok, Err, refl, sym, ap, subst, ◌∙◌}
use Rattle.std.proofs.lemmas.Option.{same_Some}
use Rattle.plant.specs.Events.{Event}
use Rattle.phys_lab.specs.Labs.{Lab}
use Rattle.virt_topo.specs.declared.experiment.Experiment.{Experiment}
use Rattle.virt_topo.specs.declared.experiment.Phase.{Phase}
use Rattle.virt_topo.specs.declared.experiment.Phase.TheVariants as phases
use Rattle.virt_topo.specs.declared.mapping.Mapped.{Mapped}
use Rattle.journal_rec.specs.declared.record.Record.TheVariants.{Begin}
use Rattle.records_model.specs.Labs.{LabState, find, is_out}
use Rattle.recovery.specs.Due.{is_busy}
use Rattle.ns_events.specs.declared.event.Event.{Event as LinkEvent}
use Rattle.script_text.specs.Replies.{played_of}
use Rattle.script_text.specs.declared.reply.Reply.{Reply}
use Rattle.script_text.specs.declared.reply.Reply.TheVariants as replies
use Rattle.script_text.specs.declared.command.Command.TheVariants as commands
use Rattle.swap_turns.specs.Legs.{Forth, Undo, Settling}
use Rattle.swap_turns.specs.Swaps.{Swap as SwapOf}
use Rattle.swap_turns.specs.Turning.{Outcome, More, TurnsBack, Ended, Stuck, Unwritten, Stopped as Halted}
use Rattle.lab_tasks.specs.Tasks.{Swap, Task}
use Rattle.lab_tasks.specs.Needs.{asked, need_idle_in, need_in, refused}
use Rattle.lab_tasks.specs.Playing.{Playing}
use Rattle.lab_judge.proofs.Fits.{is_outer}
use Rattle.lab_core.specs.BatchLines.{there_in}
use Rattle.lab_core.specs.Breaks.{Breaks, failed, stopped, unanswered}
use Rattle.lab_core.specs.Commands.{LabStep, ground_by}
use Rattle.lab_core.specs.LabSteps.{Does, IfSpace, IsAnswered, IsDoneBy, Swaps, does, done_reply, end_reply, has_space, is_told, no_memory, not_opened, opened}
use Rattle.lab_core.specs.Lists.{DoesList, Ground, Lists, Past, broken, last_reply, listed, more, no_memory as list_no_memory, none, over, refused as list_refused, set_at, wanting}
use Rattle.lab_core.specs.PlayList.{JudgedNext, JudgedPlay, after_event, events_in_turn, none_left}
use Rattle.lab_core.specs.PlayTells.{PlayTells, TellsEnded}
use Rattle.lab_core.specs.Sessions.{After, Closed, Open, OpenSwap, Session, Setting, Terms, names_of, open_by, shut_by}
use Rattle.lab_core.specs.Tells.{IsThere, is_in, is_of_steps}
use Rattle.lab_core.proofs.Events.{FitsPlain, event_fits, plays_first, refuse_so, stand_in}
use Rattle.lab_core.proofs.BatchLines.{last_tells, line_so}
use Rattle.lab_core.proofs.Places.{does_place, TellsPlace}
use Rattle.lab_core.proofs.Refusals.{IsMade, does_idle}
use Rattle.lab_core.specs.Moments.{with_more}

-- A SWAP THAT IS ANSWERED AS IN is of its own experiment
done_in : (n : List ℕ) (new : Option Mapped) (name : List ℕ) → done_reply n new ≡ replies.In name → n ≡ name
done_in n None name is = absurd (cc is)
done_in n (Some m) name is = cc is

end_in : (p : SwapOf) (outcome : Outcome) (name : List ℕ) → end_reply p outcome ≡ Some (replies.In name) → p.name ≡ name
end_in p (Ended Forth) name is = done_in p.name p.new name (same_Some _ _ is)
end_in p (Ended (Undo why)) name is = absurd (cc is)
end_in p (Ended Settling) name is = let none' : None ≡ Some (replies.In name) = is in absurd (cc none')
end_in p (Stuck why) name is = absurd (cc is)
end_in p Unwritten name is = absurd (cc is)
end_in p Halted name is = absurd (cc is)
end_in p More name is = let none' : None ≡ Some (replies.In name) = is in absurd (cc none')
end_in p (TurnsBack why) name is = let none' : None ≡ Some (replies.In name) = is in absurd (cc none')

module _ (exp : List ℕ) (set : Setting) (s : LabState) (opens : List OpenSwap) (steps : List Event) (after : After) where
  event_in : (j : Result Task Reply) → FitsPlain s (is_busy (names_of opens) exp) (length opens) exp j → (name : List ℕ) → after.reply ≡ Some (replies.In name) → Does set s opens j steps after → name ≡ exp
  event_in (Err refusal) fit name told d =
      let same : refusal ≡ replies.In name = same_Some _ _ (sym (ap (λ (a : After). a.reply) d.after_is) ∙ told) in
      let both : false ≡ true = sym fit.0 ∙ ap is_outer same in
      absurd (cc both)
  event_in (Ok (Swap own way)) fit name told d = by (has_space set (Begin own way)) d
    where
      own_is : exp ≡ own
      own_is = same_Some exp own fit.0.0

      by : (b : Bool) → IfSpace b set.length s opens (Swaps s opens own (Begin own way) steps after) steps after → name ≡ exp
      by true d = answered d.answered
        where
          answered : IsAnswered (end_reply d.swap d.outcome) opens d.outcome d.behind after → name ≡ exp
          answered (is_told starts replied session) = sym (end_in d.swap d.outcome name (sym replied ∙ told)) ∙ d.name ∙ sym own_is
      by false d = let same : replies.FullJournal set.length ≡ replies.In name = same_Some _ _ (sym (ap (λ (a : After). a.reply) d.after_is) ∙ told) in absurd (cc same)
  event_in j fit name told d = absurd fit.2

-- no event appends a record of its own
event_made : (exp : List ℕ) (s : LabState) (opens : List OpenSwap) (j : Result Task Reply) → FitsPlain s (is_busy (names_of opens) exp) (length opens) exp j → IsMade j
event_made exp s opens (Err refusal) fit = tt
event_made exp s opens (Ok (Swap own way)) fit = tt
event_made exp s opens j fit = absurd fit.2

-- WHERE IT IS after some events
record At (exp : List ℕ) (p : Playing) (u : LabState) : Type 0 where
  on : p.ended ≡ None → IsThere is_in u exp
  still : (reply : Reply) → p.ended ≡ Some reply → is_of_steps reply ≡ false → IsThere is_in u exp
  told : (reply : Reply) → p.ended ≡ Some reply → TellsPlace reply u

module _ (exp : List ℕ) where
  after_at : (p : Playing) (u : LabState) (reply : Reply) → TellsPlace reply u → ((name : List ℕ) → reply ≡ replies.In name → name ≡ exp) → (is_of_steps reply ≡ false → IsThere is_in u exp) → p.ended ≡ None → At exp (after_event exp p reply) u
  after_at p u (replies.In name) place named rests going = record {
    on = λ same. subst (λ n. IsThere is_in u n) (named name refl) place;
    still = λ reply is none. let none' : None ≡ Some reply = sym going ∙ is in absurd (cc none');
    told = λ reply is. let none' : None ≡ Some reply = sym going ∙ is in absurd (cc none');
  }
  after_at p u reply place named rests going = record {
    on = λ is. let none' : Some reply ≡ None = is in absurd (cc none');
    still = λ told is none. rests (ap is_of_steps (same_Some reply told is) ∙ none);
    told = λ told is. subst (λ r. TellsPlace r u) (same_Some reply told is) place;
  }

  pub going_on : (ended : Option Reply) (left : List LinkEvent) → (is_some ended || none_left exp left) ≡ false → ended ≡ None
  going_on None left is = refl
  going_on (Some reply) left is = absurd (cc is)

  next_at : (p : Playing) (left : List LinkEvent) (set : Setting) (s : LabState) (opens : List OpenSwap) (steps : List Event) (after : After) (reply : Reply) → after.reply ≡ Some reply
      → IsDoneBy (JudgedNext exp p.text left s opens) set s opens steps after → p.ended ≡ None → IsThere is_in s exp → At exp (after_event exp p reply) after.lab
  next_at p left set s opens steps after reply replied (no_memory wants) going here = let none' : None ≡ Some reply = sym (ap (λ (a : After). a.reply) wants.after_is) ∙ replied in absurd (cc none')
  next_at p [] set s opens steps after reply replied (does j judged d) going here = absurd judged
  next_at p (event ∷ left) set s opens steps after reply replied (does j judged d) going here =
      let fit = event_fits s opens exp p.text event j judged in
      after_at p after.lab reply (does_place steps after reply replied set s opens (stand_in exp) (is_busy (names_of opens) exp) (length opens) j fit.0 d)
      (λ name is. event_in exp set s opens steps after j fit name (replied ∙ ap (λ r. Some r) is) d)
      (λ none'. subst (λ u. IsThere is_in u exp) (sym (does_idle set s opens steps after reply replied none' j (event_made exp s opens j fit) d).lab_same) here) going

  ended_so : (ended : Option Reply) (u : LabState) → (ended ≡ None → IsThere is_in u exp) → ((reply : Reply) → ended ≡ Some reply → is_of_steps reply ≡ false → IsThere is_in u exp)
      → ((reply : Reply) → ended ≡ Some reply → TellsPlace reply u) → TellsEnded (there_in u) exp ended
  ended_so None u on still told = on refl
  ended_so (Some reply) u on still told = (still reply refl, last_tells u reply (told reply refl))

  module _ (base : Ground) (trace : Option (List Event)) where
    past_at : (start : Playing) (s : LabState) (opens : List OpenSwap) (own : List Event) (at : Playing) (u : LabState) (to : List OpenSwap) → At exp start s → Past (events_in_turn exp) base trace start s opens own at u to → At exp at u
    past_at start s opens own at u to first none = first
    past_at start s opens own at u to first (more front place mid between past steps reply u' to' next) =
        let going = going_on place.ended place.left next.more in
        next_at place place.left (set_at base next.length) mid between steps (open_by reply u to) reply refl next.done going ((past_at start s opens front place mid between first past).on going)

    whole_so : (p : Playing) (u : LabState) (reply : Reply) → At exp p u → played_of exp p.played p.ended ≡ reply → PlayTells (there_in u) exp reply
    whole_so p u reply at is = record { played = p.played; ended = p.ended; reply_is = sym is; tells = ended_so p.ended u at.on at.still at.told }

    lists_at : (start : Playing) (s : LabState) (opens : List OpenSwap) (own : List Event) (after : After) (reply : Reply) → At exp start s → after.reply ≡ Some reply → Lists (events_in_turn exp) base trace start s opens own after
        → (reply ≡ replies.Stopped → ⊥) → PlayTells (there_in after.lab) exp reply
    lists_at start s opens own after reply first replied (over at u to past is_over after_is) other =
        subst (λ (a : After). PlayTells (there_in a.lab) exp reply) (sym after_is) (whole_so at u reply (past_at start s opens own at u to first past) (same_Some _ _ (sym (ap (λ (a : After). a.reply) after_is) ∙ replied)))
    lists_at start s opens own after reply first replied (wanting at u to past after_is) other = let none' : None ≡ Some reply = sym (ap (λ (a : After). a.reply) after_is) ∙ replied in absurd (cc none')
    lists_at start s opens own after reply first replied (broken front steps at mid between None u own_is past next after_is) other =
        let none' : None ≡ Some reply = sym (ap (λ (a : After). a.reply) after_is) ∙ replied in absurd (cc none')
    lists_at start s opens own after reply first replied (broken front steps at mid between (Some last) u own_is past next after_is) other =
        let going = going_on at.ended at.left next.more in
        let here = (past_at start s opens front at mid between first past).on going in
        subst (λ (a : After). PlayTells (there_in a.lab) exp reply) (sym after_is)
        (whole_so (after_event exp at last) u reply (next_at at at.left (set_at base next.length) mid between steps (shut_by (Some last) u) last refl next.done going here)
        (ends_with at last (sym (ap (λ (a : After). a.reply) after_is) ∙ replied)))
      where
        ends_with : (p : Playing) (told : Reply) → last_reply (events_in_turn exp) p (Some told) ≡ Some reply → played_of exp (after_event exp p told).played (after_event exp p told).ended ≡ reply
        ends_with p replies.Stopped is = absurd (other (sym (same_Some replies.Stopped reply is)))
        ends_with p told is = same_Some _ _ is

-- A PLAY begins where its experiment is in
module _ (s : LabState) (busy : Bool) (exp : List ℕ) (lab : Lab) (e : Experiment) (is : need_idle_in s busy exp ≡ Ok (lab, e)) where
  pub found_is : find exp s.experiments ≡ Some e
  found_is = grind arith

  need_is : need_in exp e.phase ≡ Ok tt
  need_is = grind arith

in_is : (exp : List ℕ) (phase : Phase) → need_in exp phase ≡ Ok tt → is_in phase ≡ true
in_is exp phases.Out is = absurd (cc is)
in_is exp (phases.In mapping tags) is = refl
in_is exp (phases.Moving old new) is = absurd (cc is)

pub starts_in : (s : LabState) (busy : Bool) (exp : List ℕ) (p : Lab × Experiment) → need_idle_in s busy exp ≡ Ok p → IsThere is_in s exp
starts_in s busy exp p is = record { experiment = p.1; found = found_is s busy exp p.0 p.1 is; is_so = in_is exp p.1.phase (need_is s busy exp p.0 p.1 is) }

abbrev pub is_played : Reply → Bool
is_played (replies.Played exp played last closing blaming) = true
is_played reply = false

pub idle_plain : (s : LabState) (busy : Bool) (exp : List ℕ) (reply : Reply) → need_idle_in s busy exp ≡ Err reply → is_played reply ≡ false
idle_plain s busy exp reply is = grind arith

plays_start : (s : LabState) (opens : List OpenSwap) (exp : List ℕ) (from until : ℕ) (text : List ℕ) (start : Playing) → JudgedPlay s opens exp from until text (Ok start) → At exp start s
plays_start s opens exp from until text start (refused r needed is) = let none' : ◌≡◌ {A = Result Playing Reply} (Ok start) (Err r) = is in absurd (cc none')
plays_start s opens exp from until text start (asked p needed has) = record {
  on = λ none'. starts_in s (is_busy (names_of opens) exp) exp p needed;
  still = λ reply is none. let none' : None ≡ Some reply = sym (plays_first s opens exp from until text start (asked p needed has)) ∙ is in absurd (cc none');
  told = λ reply is. let none' : None ≡ Some reply = sym (plays_first s opens exp from until text start (asked p needed has)) ∙ is in absurd (cc none');
}

module _ (exp : List ℕ) (from until : ℕ) (text : List ℕ) (base : Ground) (trace : Option (List Event)) (after : After) (reply : Reply) (replied : after.reply ≡ Some reply) (played : is_played reply ≡ true) where
  not_stopped : reply ≡ replies.Stopped → ⊥
  not_stopped is = let both : true ≡ false = sym played ∙ ap is_played is in cc both

  plays_tell : (s : LabState) (opens : List OpenSwap) (own : List Event) → DoesList (events_in_turn exp) (JudgedPlay s opens exp from until text) base trace s opens own after → PlayTells (there_in after.lab) exp reply
  plays_tell s opens own (list_refused r judged d) =
      let same : reply ≡ r = same_Some _ _ (sym replied ∙ ap (λ (a : After). a.reply) d.after_is) in
      let both : true ≡ false = sym played ∙ ap is_played same ∙ refuse_so is_played idle_plain (λ exp fault. refl) s opens exp from until text r judged in
      absurd (cc both)
  plays_tell s opens own (list_no_memory wants) = let none' : None ≡ Some reply = sym (ap (λ (a : After). a.reply) wants.after_is) ∙ replied in absurd (cc none')
  plays_tell s opens own (listed start judged lists) = lists_at exp base trace start s opens own after reply (plays_start s opens exp from until text start judged) replied lists not_stopped

pub breaks_not : {X : Type 0} (events : List Event) (told : Option Reply) (reply : Reply) → told ≡ Some reply → is_played reply ≡ true → Breaks events told → X
breaks_not events told reply is played (stopped ended so) = let same : reply ≡ replies.Stopped = same_Some _ _ (sym is ∙ so) in let both : true ≡ false = sym played ∙ ap is_played same in absurd (cc both)
breaks_not events told reply is played (failed once miss so) = let same : reply ≡ replies.Down = same_Some _ _ (sym is ∙ so) in let both : true ≡ false = sym played ∙ ap is_played same in absurd (cc both)
breaks_not events told reply is played (unanswered none') = let both : None ≡ Some reply = sym none' ∙ is in absurd (cc both)

-- A LAB STEP of `play`
module _ (terms : Terms) (at : Option (List Event)) (set : Setting) (s : LabState) (exp : List ℕ) (from until lines : ℕ) (text : List ℕ) (opening own : List Event) (after : After) (reply : Reply) (is : after.reply ≡ Some reply) (played : is_played reply ≡ true) where
  step_tells : (session : Session) → LabStep terms at set s session (commands.Play exp from until lines text) opening own after → PlayTells (there_in after.lab) exp reply
  step_tells Closed (opened mid opens done) = plays_tell exp from until text (ground_by set) (with_more at opening) after reply is played mid [] own done
  step_tells Closed (not_opened b) = breaks_not opening after.reply reply is played b.breaks
  step_tells (Open opens) (none', done) = plays_tell exp from until text (ground_by set) (with_more at opening) after reply is played s opens own done

pub play_tells : (terms : Terms) (at : Option (List Event)) (set : Setting) (s : LabState) (session : Session) (exp name : List ℕ) (from until lines count : ℕ) (text last : List ℕ) (closing blaming : Bool) (opening own : List Event) (after : After)
    → after.reply ≡ Some (replies.Played name count last closing blaming) → LabStep terms at set s session (commands.Play exp from until lines text) opening own after → PlayTells (there_in after.lab) exp (replies.Played name count last closing blaming)
play_tells terms at set s session exp name from until lines count text last closing blaming opening own after is step = step_tells terms at set s exp from until lines text opening own after _ is refl session step

-- WHAT IS TOLD of one thing is told of another that follows from it
module _ (Was Is : (Phase → Bool) → List ℕ → Type 0) (to_in : (exp : List ℕ) → Was is_in exp → Is is_in exp) (to_out : (exp : List ℕ) → Was is_out exp → Is is_out exp) where
  ended_as : (exp : List ℕ) (ended : Option Reply) → TellsEnded Was exp ended → TellsEnded Is exp ended
  ended_as exp None was = to_in exp was
  ended_as exp (Some reply) was = (λ none. to_in exp (was.0 none), line_so Was Is to_in to_out [] reply was.1)

  pub play_so : (exp : List ℕ) (reply : Reply) → PlayTells Was exp reply → PlayTells Is exp reply
  play_so exp reply was = record { played = was.played; ended = was.ended; reply_is = was.reply_is; tells = ended_as exp was.ended was.tells }
