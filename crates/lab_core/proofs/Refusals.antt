-- A reply that isn't of steps comes without any.
use Rattle.std.proofs.Common.{◌≡◌, ℕ, Bool, true, false, List, [], Option, Some, None, Result, Ok, Err, refl, sym, ap, ◌∙◌, subst, arith}
use Rattle.std.proofs.lemmas.Option.{same_Some}
use Rattle.plant.specs.Events.{Event}
use Rattle.plant.specs.declared.drill.Drill.{Drill}
use Rattle.journal_rec.specs.declared.record.Record.TheVariants.{Begin}
use Rattle.journal_model.specs.Appends.{Run}
use Rattle.virt_topo.specs.declared.mapping.Mapped.{Mapped}
use Rattle.records_model.specs.Labs.{LabState}
use Rattle.cost_rule.specs.declared.rule.RuleNumber.{RuleNumber}
use Rattle.script_text.specs.Drills.{drill_of}
use Rattle.script_text.specs.declared.command.Command.{Command}
use Rattle.script_text.specs.declared.command.Command.TheVariants as commands
use Rattle.script_text.specs.declared.reply.Reply.{Reply}
use Rattle.script_text.specs.declared.reply.Reply.TheVariants as replies
use Rattle.swap_turns.specs.Legs.{Forth, Undo, Settling}
use Rattle.swap_turns.specs.Swaps.{Swap as SwapOf}
use Rattle.swap_turns.specs.Turning.{Outcome, More, TurnsBack, Ended, Stuck, Unwritten, Stopped as Halted}
use Rattle.lab_tasks.specs.Tasks.{Task, Tell, Append, Swap, BeginOnly, Turn, Finish, Recover}
use Rattle.lab_tasks.specs.Mappings.{in_slot, judged_modify_with, judged_swapin_with}
use Rattle.lab_judge.specs.Judge.{Judged, judged_create_top, judged_delete, judged_ptop, judged_swapout}
use Rattle.lab_judge.specs.Searches.{JudgedModify, JudgedSwapin}
use Rattle.lab_judge.specs.Serving.{JudgedBatch}
use Rattle.lab_core.specs.Auditing.{Audits, no_lab, no_memory as audit_no_memory, told as audit_told, unread as audit_unread}
use Rattle.lab_core.specs.Breaks.{Breaks, failed, stopped, unanswered}
use Rattle.lab_core.specs.Commands.{DoesCommand, LabStep, ground_by}
use Rattle.lab_core.specs.LabSteps.{AppendEnds, Does, DoesBy, IfSpace, IsAnswered, IsDoneBy, JudgedBeside, StepOf, Swaps, Appends, Begins, broken, does, done_reply, end_reply, has_space, is_planned, is_refused, is_told, no_memory, not_opened, opened, turn_reply, wants_memory, whole}
use Rattle.lab_core.specs.Lists.{DoesList, Ground, Listing, Lists, broken as list_broken, last_reply, listed, no_memory as list_no_memory, over, refused as list_refused, wanting}
use Rattle.lab_core.specs.PlayList.{JudgedPlay, events_in_turn}
use Rattle.lab_core.specs.BatchList.{runs_in_turn}
use Rattle.lab_core.specs.Recovery.{Recovers, broken_off, settled}
use Rattle.lab_core.specs.Sessions.{After, Closed, Open, OpenSwap, Session, Setting, Terms}
use Rattle.lab_core.specs.Tells.{is_of_steps}
use Rattle.lab_core.specs.Moments.{with_more}

-- A JUDGEMENT that appends a record is told by a reply of steps
abbrev pub IsMade : Result Task Reply → Type 0
IsMade (Ok (Append entry told)) = is_of_steps told ≡ true
IsMade judgement = Unit {0}

abbrev appends_none : Result Task Reply → Bool
appends_none (Ok (Append entry told)) = false
appends_none judgement = true

module _ (s : LabState) (busy : Bool) (count : ℕ) where
  slot_made : (only : Bool) (j : Result Task Reply) → appends_none j ≡ true → IsMade (in_slot count only j)
  slot_made only j is = grind arith

  swapin_none : (exp text : List ℕ) → appends_none (judged_swapin_with s busy exp text) ≡ true
  swapin_none exp text = grind arith

  modify_none : (rule : RuleNumber) (exp : List ℕ) (seed : ℕ) (text : List ℕ) (j : Result Task Reply) → JudgedModify rule s busy exp seed text j → appends_none j ≡ true
  modify_none rule exp seed text j is = grind arith

  modify_with_none : (exp : List ℕ) (lines : ℕ) (top map : List ℕ) → appends_none (judged_modify_with s busy exp lines top map) ≡ true
  modify_with_none exp lines top map = grind arith

  entry_none : (rule : RuleNumber) (exp : List ℕ) (seed : ℕ) (j : Result Task Reply) → JudgedSwapin rule s busy exp seed j → appends_none j ≡ true
  entry_none rule exp seed j is = grind arith

  swapout_none : (exp : List ℕ) → appends_none (judged_swapout s busy exp) ≡ true
  swapout_none exp = grind arith

  ptop_made : (text : List ℕ) → IsMade (judged_ptop s text)
  ptop_made text = grind arith

  create_made : (exp text : List ℕ) → IsMade (judged_create_top s exp text)
  create_made exp text = grind arith

  delete_made : (exp : List ℕ) → IsMade (judged_delete s busy exp)
  delete_made exp = grind arith

  pub judged_made : (rule : RuleNumber) (command : Command) (j : Result Task Reply) → Judged rule s busy count command j → IsMade j
  judged_made rule (commands.Ptop lines text) j is = subst IsMade (sym is) (ptop_made text)
  judged_made rule (commands.CreateTop exp lines text) j is = subst IsMade (sym is) (create_made exp text)
  judged_made rule (commands.Delete exp) j is = subst IsMade (sym is) (delete_made exp)
  judged_made rule (commands.Swapin only exp seed) j is = subst IsMade (sym is.is) (slot_made only is.before (entry_none rule exp seed is.before is.judged))
  judged_made rule (commands.SwapinWith only exp lines text) j is = subst IsMade (sym is) (slot_made only _ (swapin_none exp text))
  judged_made rule (commands.Modify only exp seed lines text) j is = subst IsMade (sym is.is) (slot_made only is.before (modify_none rule exp seed text is.before is.judged))
  judged_made rule (commands.ModifyWith only exp lines top others map) j is = subst IsMade (sym is) (slot_made only _ (modify_with_none exp lines top map))
  judged_made rule (commands.Swapout only exp) j is = subst IsMade (sym is) (slot_made only _ (swapout_none exp))
  judged_made rule command j is = grind arith

-- A REPLY TO A SWAP is of steps
none_told : {X : Type 0} (reply : Reply) → None ≡ Some reply → X
none_told reply is = absurd (cc is)

done_made : (exp : List ℕ) (new : Option Mapped) → is_of_steps (done_reply exp new) ≡ true
done_made exp None = refl
done_made exp (Some m) = refl

as_told : (told reply : Reply) → Some told ≡ Some reply → is_of_steps told ≡ true → is_of_steps reply ≡ true
as_told told reply is made = ap is_of_steps (sym (same_Some told reply is)) ∙ made

end_made : (p : SwapOf) (outcome : Outcome) (reply : Reply) → end_reply p outcome ≡ Some reply → is_of_steps reply ≡ true
end_made p (Ended Forth) reply is = as_told _ reply is (done_made p.name p.new)
end_made p (Ended (Undo why)) reply is = as_told _ reply is refl
end_made p (Ended Settling) reply is = none_told reply is
end_made p (Stuck why) reply is = as_told _ reply is refl
end_made p Unwritten reply is = as_told _ reply is refl
end_made p Halted reply is = as_told _ reply is refl
end_made p More reply is = none_told reply is
end_made p (TurnsBack why) reply is = none_told reply is

turn_made : (p : SwapOf) (outcome : Outcome) (reply : Reply) → turn_reply p outcome ≡ Some reply → is_of_steps reply ≡ true
turn_made p More reply is = as_told _ reply is refl
turn_made p (TurnsBack why) reply is = as_told _ reply is refl
turn_made p (Ended leg) reply is = end_made p (Ended leg) reply is
turn_made p (Stuck why) reply is = end_made p (Stuck why) reply is
turn_made p Unwritten reply is = end_made p Unwritten reply is
turn_made p Halted reply is = end_made p Halted reply is

breaks_made : (events : List Event) (told : Option Reply) (reply : Reply) → told ≡ Some reply → Breaks events told → is_of_steps reply ≡ true
breaks_made events told reply is (stopped ends so) = as_told replies.Stopped reply (sym so ∙ is) refl
breaks_made events told reply is (failed once miss so) = as_told replies.Down reply (sym so ∙ is) refl
breaks_made events told reply is (unanswered so) = none_told reply (sym so ∙ is)

-- WITHOUT STEPS the lab stays
pub record IsIdle (s : LabState) (own : List Event) (after : After) : Type 0 where
  pub nothing : own ≡ []
  pub lab_same : after.lab ≡ s

module _ (set : Setting) (s : LabState) (opens : List OpenSwap) (own : List Event) (after : After) (reply : Reply) (replied : after.reply ≡ Some reply) (no_steps : is_of_steps reply ≡ false) where
  never : {X : Type 0} → is_of_steps reply ≡ true → X
  never made = let both : true ≡ false = sym made ∙ no_steps in absurd (cc both)

  space_idle : (b : Bool) (length : ℕ) (Done : Type 0) → (Done → is_of_steps reply ≡ true) → IfSpace b length s opens Done own after → IsIdle s own after
  space_idle true length Done made d = never (made d)
  space_idle false length Done made d = record { nothing = d.nothing; lab_same = ap (λ (a : After). a.lab) d.after_is }

  ends_made : (state : LabState) (told : Reply) (run : Run) (more : List Event) → is_of_steps told ≡ true → AppendEnds s opens state told run more own after → is_of_steps reply ≡ true
  ends_made state told run more made (whole all none after_is) = as_told told reply (sym (ap (λ (a : After). a.reply) after_is) ∙ replied) made
  ends_made state told run more made (broken breaks some lab session) = breaks_made own after.reply reply replied breaks

  answer_made : (told : Option Reply) (to : List OpenSwap) (outcome : Outcome) (behind : List Event) → ((r : Reply) → told ≡ Some r → is_of_steps r ≡ true) → IsAnswered told to outcome behind after → is_of_steps reply ≡ true
  answer_made told to outcome behind made (is_told starts is session) = made reply (sym is ∙ replied)

  recover_made : Recovers s opens own after → is_of_steps reply ≡ true
  recover_made (settled outcomes settles is session) = as_told _ reply (sym is ∙ replied) refl
  recover_made (broken_off some breaks session) = breaks_made own after.reply reply replied breaks

  pub does_idle : (j : Result Task Reply) → IsMade j → Does set s opens j own after → IsIdle s own after
  does_idle (Err refusal) made d = record { nothing = d.nothing; lab_same = ap (λ (a : After). a.lab) d.after_is }
  does_idle (Ok (Tell told)) made d = record { nothing = d.nothing; lab_same = ap (λ (a : After). a.lab) d.after_is }
  does_idle (Ok (Append entry told)) made d = space_idle (has_space set entry) set.length (Appends s opens entry told own after) (λ a. ends_made a.state told a.run a.more made a.ends) d
  does_idle (Ok (Swap exp way)) made d = space_idle (has_space set (Begin exp way)) set.length (Swaps s opens exp (Begin exp way) own after) (λ w. answer_made _ opens w.outcome w.behind (λ r is. end_made w.swap w.outcome r is) w.answered) d
  does_idle (Ok (BeginOnly exp way)) made d = space_idle (has_space set (Begin exp way)) set.length (Begins s opens set.devices exp (Begin exp way) own after) (λ w. answer_made _ _ w.outcome w.behind (λ r is. turn_made w.swap w.outcome r is) w.answered) d
  does_idle (Ok (Turn exp)) made d = never (answer_made _ _ d.outcome d.behind (λ r is. turn_made d.one.swap.running.swap d.outcome r is) d.answered)
  does_idle (Ok (Finish exp)) made d = never (answer_made _ _ d.outcome d.behind (λ r is. end_made d.one.swap.running.swap d.outcome r is) d.answered)
  does_idle (Ok Recover) made d = never (recover_made d)

  pub done_idle : (IsJudged : Result Task Reply → Type 0) → ((j : Result Task Reply) → IsJudged j → IsMade j) → IsDoneBy IsJudged set s opens own after → IsIdle s own after
  done_idle IsJudged made (does j judged d) = does_idle j (made j judged) d
  done_idle IsJudged made (no_memory wants) = none_told reply (sym (ap (λ (a : After). a.reply) wants.after_is) ∙ replied)

  -- a list is told of by a reply of steps, or refused
  last_made : {X : Type 0} (l : Listing X) → ((at : X) → is_of_steps (l.whole at) ≡ true) → (at : X) (told : Option Reply) → last_reply l at told ≡ Some reply → is_of_steps reply ≡ true
  last_made l made at None is = none_told reply is
  last_made l made at (Some replies.Stopped) is = as_told _ reply is refl
  last_made l made at (Some told) is = as_told _ reply is (made (l.behind at told))

  lists_made : {X : Type 0} (l : Listing X) (base : Ground) (trace : Option (List Event)) → ((at : X) → is_of_steps (l.whole at) ≡ true) → (start : X) → Lists l base trace start s opens own after → is_of_steps reply ≡ true
  lists_made l base trace made start (over at lab to past ends after_is) = as_told _ reply (sym (ap (λ (a : After). a.reply) after_is) ∙ replied) (made at)
  lists_made l base trace made start (list_broken front steps at mid between told lab own_is past next after_is) = last_made l made at told (sym (ap (λ (a : After). a.reply) after_is) ∙ replied)
  lists_made l base trace made start (wanting at lab to past after_is) = none_told reply (sym (ap (λ (a : After). a.reply) after_is) ∙ replied)

  list_idle : {X : Type 0} (l : Listing X) (JudgedList : Result X Reply → Type 0) (base : Ground) (trace : Option (List Event)) → ((at : X) → is_of_steps (l.whole at) ≡ true) → DoesList l JudgedList base trace s opens own after → own ≡ []
  list_idle l JudgedList base trace made (list_refused r judged d) = d.nothing
  list_idle l JudgedList base trace made (list_no_memory wants) = wants.nothing
  list_idle l JudgedList base trace made (listed start judged lists) = never (lists_made l base trace made start lists)

  audit_idle : (trace : Option (List Event)) → Audits trace s opens own after → own ≡ []
  audit_idle w (no_lab is d) = d.nothing
  audit_idle w (audit_told report none tells after_is) = none
  audit_idle w (audit_unread name one after_is) = never (as_told _ reply (sym (ap (λ (a : After). a.reply) after_is) ∙ replied) refl)
  audit_idle w (audit_no_memory wants) = wants.nothing

-- A LAB STEP whose reply isn't of steps has none of its own
module _ (terms : Terms) (at : Option (List Event)) (set : Setting) (s : LabState) (opening own : List Event) (after : After) (reply : Reply) (replied : after.reply ≡ Some reply) (no_steps : is_of_steps reply ≡ false) where
  abbrev Step : (List OpenSwap → LabState → List Event → After → Type 0) → Session → Type 0
  Step Does session = StepOf None Does terms s session opening own after

  by_does : (Does : List OpenSwap → LabState → List Event → After → Type 0) → ((opens : List OpenSwap) (mid : LabState) → Does opens mid own after → own ≡ []) → (session : Session) → Step Does session → own ≡ []
  by_does Does idle Closed (opened mid opens d) = idle [] mid d
  by_does Does idle Closed (not_opened b) = b.nothing
  by_does Does idle (Open opens) d = idle opens s d.1

  plain_idle : (drill : Option Drill) (command : Command) (session : Session) → StepOf drill (DoesBy (JudgedBeside terms.rule command) set) terms s session opening own after → own ≡ []
  plain_idle (Some drill) command session (none, is_planned takes own_is after_is) = own_is
  plain_idle (Some drill) command session (none, is_refused takes own_is after_is) = own_is
  plain_idle (Some drill) command session (none, wants_memory wants) = wants.nothing
  plain_idle None command session step =
      by_does (DoesBy (JudgedBeside terms.rule command) set)
      (λ opens mid d. (done_idle set mid opens own after reply replied no_steps (JudgedBeside terms.rule command opens mid) (λ j judged. judged_made mid _ _ terms.rule command j judged) d).nothing) session step

  pub step_idle : (command : Command) (session : Session) → LabStep terms at set s session command opening own after → own ≡ []
  step_idle (commands.Play exp from until lines text) session step =
      by_does (DoesCommand terms.rule (commands.Play exp from until lines text) (with_more at opening) set)
      (λ opens mid d. list_idle set mid opens own after reply replied no_steps (events_in_turn exp) (JudgedPlay mid opens exp from until text) (ground_by set) (with_more at opening) (λ p. refl) d) session step
  step_idle (commands.Batch moment lines text) session step =
      by_does (DoesCommand terms.rule (commands.Batch moment lines text) (with_more at opening) set)
      (λ opens mid d. list_idle set mid opens own after reply replied no_steps (runs_in_turn terms.rule moment) (JudgedBatch mid text) (ground_by set) (with_more at opening) (λ p. refl) d) session step
  step_idle commands.Audit session step = by_does (DoesCommand terms.rule commands.Audit (with_more at opening) set) (λ opens mid d. audit_idle set mid opens own after reply replied no_steps (with_more at opening) d) session step
  step_idle command session step = plain_idle (drill_of command) command session step
