-- Where the reply to a command tells that an experiment is, there it is in the lab after it.
use Rattle.std.proofs.Common.{◌≡◌, ℕ, Bool, true, false, List, length, Option, Some, None, Result, Ok, Err, refl, sym, ap, ◌∙◌, subst}
use Rattle.std.proofs.lemmas.Option.{same_Some}
use Rattle.plant.specs.Events.{Event}
use Rattle.plant.specs.declared.drill.Drill.{Drill}
use Rattle.phys_lab.specs.Labs.{Lab}
use Rattle.journal_rec.specs.declared.record.Record.{Record}
use Rattle.journal_rec.specs.declared.record.Record.TheVariants.{Begin}
use Rattle.lab_base.specs.declared.what.What.{What}
use Rattle.virt_topo.specs.declared.experiment.Experiment.{Experiment}
use Rattle.virt_topo.specs.declared.experiment.Phase.{Phase}
use Rattle.virt_topo.specs.declared.experiment.Phase.TheVariants.{Out, Moving}
use Rattle.virt_topo.specs.declared.mapping.Mapped.{Mapped}
use Rattle.records_model.specs.Labs.{LabState, Move, Commits, Aborts, becomes, find, in_phase, in_state, inside, is_out, moved, moved_of, moved_one, replace, with_replaced}
use Rattle.records_model.proofs.Finding.{none_some, found_from}
use Rattle.records_model.proofs.Swaps.{find_replaced}
use Rattle.script_text.specs.Drills.{drill_of}
use Rattle.script_text.specs.declared.command.Command.{Command}
use Rattle.script_text.specs.declared.reply.Reply.{Reply}
use Rattle.script_text.specs.declared.reply.Reply.TheVariants as replies
use Rattle.script_text.specs.declared.reply.FailedEnd.TheVariants as ends
use Rattle.swap_txn.specs.Troubles.{what_of}
use Rattle.swap_turns.specs.Finishing.{Finishes}
use Rattle.swap_turns.specs.Legs.{Forth, Undo, Settling}
use Rattle.swap_turns.specs.Running.{OpenSwap as RunningSwap}
use Rattle.swap_turns.specs.Swaps.{Swap as SwapOf, Moves}
use Rattle.swap_turns.specs.Turning.{Outcome, More, TurnsBack, Ended, Stuck, Unwritten, Stopped as Halted, TurnSteps}
use Rattle.swap_turns.specs.Whole.{SwapSteps, begun, unwritten, stopped as stopped_so}
use Rattle.lab_core.specs.Breaks.{Breaks, stopped, failed, unanswered}
use Rattle.lab_tasks.specs.Tasks.{Task, Tell, Append, Swap, BeginOnly, Turn, Finish, Recover}
use Rattle.lab_core.specs.LabSteps.{DoesBy, JudgedBeside, StepOf, Replies, AppendEnds, whole, broken, Appends, done_reply, undone_end, end_reply, turn_reply, IsAnswered, is_told, Swaps, BeginSteps, Begins as BeginsSwap, IfSpace, Does, Drills, is_planned, is_refused, wants_memory}
use Rattle.lab_core.specs.Recovery.{Recovers, settled, broken_off}
use Rattle.lab_core.specs.Sessions.{OpenSwap, Session, Setting, After, Terms, names_of}
use Rattle.lab_tasks.specs.OpenNames.{is_among, name_of}
use Rattle.lab_core.specs.Tells.{IsThere, is_in}
use Rattle.lab_judge.proofs.Fits.{IsFit, fits, is_outer}
use Rattle.lab_core.proofs.StepLaws.{Was, by_one, was, done, wanting, broke, drilled}
use Rattle.swap_turns.proofs.Finishing.{onward_swap}

-- WHERE A REPLY TELLS THAT AN EXPERIMENT IS, in or out, there it is in the lab after it
abbrev pub TellsPlace : Reply → LabState → Type 0
TellsPlace (replies.In exp) after = IsThere is_in after exp
TellsPlace (replies.Out exp) after = IsThere is_out after exp
TellsPlace (replies.Failed exp ends.In what) after = IsThere is_in after exp
TellsPlace (replies.Failed exp ends.Out what) after = IsThere is_out after exp
TellsPlace reply after = Unit {0}

-- no reply but those to a swap tells it
pub no_place : (u : LabState) (reply : Reply) → is_outer reply ≡ false → TellsPlace reply u
no_place u (replies.In exp) inner = absurd (cc inner)
no_place u (replies.Out exp) inner = absurd (cc inner)
no_place u (replies.Failed exp end what) inner = absurd (cc inner)
no_place u reply inner = tt

-- THE LAST RECORD of a move
module _ (lab : Lab) (es : List Experiment) (name : List ℕ) (e : Experiment) (found : find name es ≡ Some e) (after : LabState) where
  put : (f : Experiment) (is : Phase → Bool) → f.name ≡ e.name → is f.phase ≡ true → in_state lab (Some (replace name f es)) ≡ Some after → IsThere is after name
  put f is named so gives =
      record { experiment = f; found = subst (λ (u : LabState). find name u.experiments ≡ Some f) (same_Some _ after gives) (find_replaced name es e f found (named ∙ (found_from name es e found).name_is)); is_so = so }

  committed_in : (old new : Option Mapped) → in_state lab (with_replaced name es (becomes lab es e (Moving old new) (Commits name))) ≡ Some after → TellsPlace (done_reply name new) after
  committed_in old (Some m) gives = put (inside e m) is_in refl refl gives
  committed_in (Some m) None gives = put (in_phase e Out) is_out refl refl gives
  committed_in None None gives = none_some after gives

  aborted_in : (old new : Option Mapped) (what : What) → in_state lab (with_replaced name es (becomes lab es e (Moving old new) (Aborts name))) ≡ Some after → TellsPlace (replies.Failed name (undone_end old) what) after
  aborted_in None (Some m) what gives = put (in_phase e Out) is_out refl refl gives
  aborted_in (Some o) (Some m) what gives = put (inside e o) is_in refl refl gives
  aborted_in (Some o) None what gives = none_some after gives
  aborted_in None None what gives = none_some after gives

committed_by : (lab : Option Lab) (es : List Experiment) (name : List ℕ) (e : Experiment) (old new : Option Mapped) (after : LabState) → find name es ≡ Some e → e.phase ≡ Moving old new → moved_of lab es (Commits name) ≡ Some after → TellsPlace (done_reply name new) after
committed_by None es name e old new after found moving gives = none_some after gives
committed_by (Some lab) es name e old new after found moving gives =
    committed_in lab es name e found after old new
    (sym (ap (λ (o : Option Experiment). in_state lab (moved_one lab es name o (Commits name))) found ∙ ap (λ (p : Phase). in_state lab (with_replaced name es (becomes lab es e p (Commits name)))) moving) ∙ gives)

aborted_by : (lab : Option Lab) (es : List Experiment) (name : List ℕ) (e : Experiment) (old new : Option Mapped) (what : What) (after : LabState) → find name es ≡ Some e → e.phase ≡ Moving old new → moved_of lab es (Aborts name) ≡ Some after → TellsPlace (replies.Failed name (undone_end old) what) after
aborted_by None es name e old new what after found moving gives = none_some after gives
aborted_by (Some lab) es name e old new what after found moving gives =
    aborted_in lab es name e found after old new what
    (sym (ap (λ (o : Option Experiment). in_state lab (moved_one lab es name o (Aborts name))) found ∙ ap (λ (p : Phase). in_state lab (with_replaced name es (becomes lab es e p (Aborts name)))) moving) ∙ gives)

-- THE REPLY TO A SWAP that is over, and to a turn
pub place_as : (u : LabState) (told reply : Reply) → Some told ≡ Some reply → TellsPlace told u → TellsPlace reply u
place_as u told reply is place = subst (λ (r : Reply). TellsPlace r u) (same_Some told reply is) place

end_place : (s after : LabState) (at : RunningSwap) (steps : List Event) (outcome : Outcome) (reply : Reply) → Moves at.swap s → end_reply at.swap outcome ≡ Some reply → TurnSteps s at steps outcome after → TellsPlace reply after
end_place s after at steps (Ended Forth) reply m is turn = place_as after _ reply is (committed_by s.lab s.experiments at.swap.name m.exp at.swap.old at.swap.new after m.found m.moving turn.0.1.moves)
end_place s after at steps (Ended (Undo why)) reply m is turn = place_as after _ reply is (aborted_by s.lab s.experiments at.swap.name m.exp at.swap.old at.swap.new (what_of why) after m.found m.moving turn.0.1.moves)
end_place s after at steps (Stuck trouble) reply m is turn = place_as after _ reply is tt
end_place s after at steps Unwritten reply m is turn = place_as after _ reply is tt
end_place s after at steps Halted reply m is turn = place_as after _ reply is tt
end_place s after at steps More reply m is turn = let none : None ≡ Some reply = is in absurd (cc none)
end_place s after at steps (TurnsBack why) reply m is turn = let none : None ≡ Some reply = is in absurd (cc none)
end_place s after at steps (Ended Settling) reply m is turn = let none : None ≡ Some reply = is in absurd (cc none)

turn_place : (s after : LabState) (at : RunningSwap) (steps : List Event) (outcome : Outcome) (reply : Reply) → Moves at.swap s → turn_reply at.swap outcome ≡ Some reply → TurnSteps s at steps outcome after → TellsPlace reply after
turn_place s after at steps More reply m is turn = place_as after _ reply is tt
turn_place s after at steps (TurnsBack why) reply m is turn = place_as after _ reply is tt
turn_place s after at steps (Ended leg) reply m is turn = end_place s after at steps (Ended leg) reply m is turn
turn_place s after at steps (Stuck why) reply m is turn = end_place s after at steps (Stuck why) reply m is turn
turn_place s after at steps Unwritten reply m is turn = end_place s after at steps Unwritten reply m is turn
turn_place s after at steps Halted reply m is turn = end_place s after at steps Halted reply m is turn

finish_place : (s after : LabState) (o : RunningSwap) (steps : List Event) (outcome : Outcome) (reply : Reply) → Moves o.swap s → end_reply o.swap outcome ≡ Some reply → Finishes s o steps outcome after → TellsPlace reply after
finish_place s after o steps outcome reply m is f =
    let same : f.at.swap ≡ o.swap = onward_swap s o f.front f.at f.onward in
    end_place s after f.at f.behind outcome reply (subst (λ (p : SwapOf). Moves p s) (sym same) m) (ap (λ (p : SwapOf). end_reply p outcome) same ∙ is) f.turn

swap_place : (p : SwapOf) (s after : LabState) (entry : Record) (move : Move) (steps : List Event) (outcome : Outcome) (reply : Reply) → ((state : LabState) → moved s move ≡ Some state → Moves p state) → end_reply p outcome ≡ Some reply
    → SwapSteps p s entry move steps after outcome → TellsPlace reply after
swap_place p s after entry move steps outcome reply moves is (begun b) = finish_place b.state after _ b.behind outcome reply (moves b.state b.begins.moves) is b.finishes
swap_place p s after entry move steps outcome reply moves is (unwritten b other) = place_as after _ reply (sym (ap (λ (x : Outcome). end_reply p x) other) ∙ is) tt
swap_place p s after entry move steps outcome reply moves is (stopped_so b other) = place_as after _ reply (sym (ap (λ (x : Outcome). end_reply p x) other) ∙ is) tt

begin_place : (p : SwapOf) (s after : LabState) (entry : Record) (move : Move) (steps : List Event) (outcome : Outcome) (reply : Reply) → turn_reply p outcome ≡ Some reply → BeginSteps s entry move steps after outcome → TellsPlace reply after
begin_place p s after entry move steps More reply is b = place_as after _ reply is tt
begin_place p s after entry move steps Unwritten reply is b = place_as after _ reply is tt
begin_place p s after entry move steps Halted reply is b = place_as after _ reply is tt
begin_place p s after entry move steps (TurnsBack why) reply is b = absurd b
begin_place p s after entry move steps (Ended leg) reply is b = absurd b
begin_place p s after entry move steps (Stuck trouble) reply is b = absurd b

-- EACH TASK
module _ (own : List Event) (after : After) (reply : Reply) (is : after.reply ≡ Some reply) where
  none_left : {X : Type 0} → after.reply ≡ None → X
  none_left none = none_some reply (sym none ∙ is)

  so : (told : Reply) → after.reply ≡ Some told → TellsPlace told after.lab → TellsPlace reply after.lab
  so told told_is place = place_as after.lab told reply (sym told_is ∙ is) place

  pub breaks_place : (events : List Event) → Breaks events after.reply → TellsPlace reply after.lab
  breaks_place events (stopped ended told) = so replies.Stopped told tt
  breaks_place events (failed once miss told) = so replies.Down told tt
  breaks_place events (unanswered none) = none_left none

  replies_place : (s : LabState) (opens : List OpenSwap) (told : Reply) → is_outer told ≡ false → Replies s opens told own after → TellsPlace reply after.lab
  replies_place s opens told inner d = so told (ap (λ (a : After). a.reply) d.after_is) (no_place after.lab told inner)

  space_place : (s : LabState) (opens : List OpenSwap) (b : Bool) (length : ℕ) (Done : Type 0) → (Done → TellsPlace reply after.lab) → IfSpace b length s opens Done own after → TellsPlace reply after.lab
  space_place s opens true length Done each d = each d
  space_place s opens false length Done each d = replies_place s opens (replies.FullJournal length) refl d

  append_place : (s : LabState) (opens : List OpenSwap) (entry : Record) (told : Reply) → is_outer told ≡ false → Appends s opens entry told own after → TellsPlace reply after.lab
  append_place s opens entry told inner d = by d.ends
    where
      by : AppendEnds s opens d.state told d.run d.more own after → TellsPlace reply after.lab
      by (whole all none after_is) = so told (ap (λ (a : After). a.reply) after_is) (no_place after.lab told inner)
      by (broken breaks said either session) = breaks_place own breaks

  answered_place : (told : Option Reply) (to : List OpenSwap) (outcome : Outcome) (behind : List Event) → (told ≡ Some reply → TellsPlace reply after.lab) → IsAnswered told to outcome behind after → TellsPlace reply after.lab
  answered_place told to outcome behind each (is_told starts replied session) = each (sym replied ∙ is)

  recover_place : (s : LabState) (opens : List OpenSwap) → Recovers s opens own after → TellsPlace reply after.lab
  recover_place s opens (settled outcomes settles told session) = so _ told tt
  recover_place s opens (broken_off part breaks session) = breaks_place own breaks

  pub does_place : (set : Setting) (s : LabState) (opens : List OpenSwap) (command : Command) (busy : Bool) (count : ℕ) (judgement : Result Task Reply) → IsFit s command busy count judgement → Does set s opens judgement own after → TellsPlace reply after.lab
  does_place set s opens command busy count (Err refusal) inner d = replies_place s opens refusal inner d
  does_place set s opens command busy count (Ok (Tell told)) inner d = replies_place s opens told inner d
  does_place set s opens command busy count (Ok (Append entry told)) inner d = space_place s opens _ set.length (Appends s opens entry told own after) (append_place s opens entry told inner.0) d
  does_place set s opens command busy count (Ok (Swap exp way)) inner d =
      space_place s opens _ set.length (Swaps s opens exp (Begin exp way) own after) (λ d. answered_place _ opens d.outcome d.behind (λ told. swap_place d.swap s after.lab (Begin exp way) d.move d.steps d.outcome reply d.moves told d.ends) d.answered) d
  does_place set s opens command busy count (Ok (BeginOnly exp way)) inner d =
      space_place s opens _ set.length (BeginsSwap s opens set.devices exp (Begin exp way) own after) (λ d. answered_place _ _ d.outcome d.behind (λ told. begin_place d.swap s after.lab (Begin exp way) d.move d.steps d.outcome reply told d.begins) d.answered) d
  does_place set s opens command busy count (Ok (Turn exp)) inner d = answered_place _ _ d.outcome d.behind (λ told. turn_place s after.lab d.one.swap.running d.steps d.outcome reply d.moves told d.turn) d.answered
  does_place set s opens command busy count (Ok (Finish exp)) inner d = answered_place _ _ d.outcome d.behind (λ told. finish_place s after.lab d.one.swap.running d.steps d.outcome reply d.moves told d.finishes) d.answered
  does_place set s opens command busy count (Ok Recover) inner d = recover_place s opens d

  drill_place : (terms : Terms) (s : LabState) (session : Session) → Drills terms.takes s session own after → TellsPlace reply after.lab
  drill_place terms s session (is_planned yes' none a) = so replies.Planned (ap (λ (v : After). v.reply) a) tt
  drill_place terms s session (is_refused no' none a) = so replies.NoDrill (ap (λ (v : After). v.reply) a) tt
  drill_place terms s session (wants_memory wants) = none_left (ap (λ (v : After). v.reply) wants.after_is)

  was_place : (drill : Option Drill) (judgement : Result Task Reply) (terms : Terms) (set : Setting) (s : LabState) (session : Session) (command : Command) (opening : List Event) → Was drill judgement terms set s session command opening own after → TellsPlace reply after.lab
  was_place drill judgement terms set s session command opening (done mid opens begins judged d) =
      does_place set mid opens command (is_among (names_of opens) (name_of command)) (length opens) judgement (fits mid (is_among (names_of opens) (name_of command)) (length opens) terms.rule command judgement judged) d
  was_place drill judgement terms set s session command opening (wanting mid opens begins wants) = none_left (ap (λ (v : After). v.reply) wants.after_is)
  was_place drill judgement terms set s session command opening (broke no' closed breaks) = breaks_place opening breaks.breaks
  was_place drill judgement terms set s session command opening (drilled some none drills) = drill_place terms s session drills

-- A LAB STEP by one judgement
pub step_place : (terms : Terms) (set : Setting) (s : LabState) (session : Session) (command : Command) (opening own : List Event) (after : After) (reply : Reply) → after.reply ≡ Some reply → StepOf (drill_of command) (DoesBy (JudgedBeside terms.rule command) set) terms s session opening own after
    → TellsPlace reply after.lab
step_place terms set s session command opening own after reply is step =
    let one = by_one (drill_of command) terms set s session command opening own after step in
    was_place own after reply is (drill_of command) one.0 terms set s session command opening (was one.0 terms set s command opening own after (drill_of command) session one.1)
