-- The replies that no judgement has: those of drills.
use Rattle.std.proofs.Common.{◌≡◌, ℕ, Bool, true, false, List, [], Option, Some, None, Result, Ok, Err, refl, ◌∙◌, ap}
use Rattle.std.specs.Prelude.{length}
use Rattle.plant.specs.Events.{Event}
use Rattle.virt_topo.specs.declared.mapping.Mapped.{Mapped}
use Rattle.journal_rec.specs.declared.record.Record.TheVariants.{Begin}
use Rattle.journal_model.specs.Appends.{Run}
use Rattle.cost_rule.specs.declared.rule.RuleNumber.{RuleNumber}
use Rattle.records_model.specs.Labs.{LabState}
use Rattle.swap_turns.specs.Legs.{Forth, Undo, Settling}
use Rattle.swap_turns.specs.Swaps.{Swap as SwapOf}
use Rattle.swap_turns.specs.Turning.{Outcome, Ended, Stuck, Unwritten, TurnsBack, More, Stopped as Halted}
use Rattle.script_text.specs.declared.command.Command.{Command}
use Rattle.script_text.specs.declared.reply.Reply.{Reply}
use Rattle.script_text.specs.declared.reply.Reply.TheVariants as replies
use Rattle.lab_core.specs.Breaks.{Breaks, stopped, failed, unanswered}
use Rattle.lab_tasks.specs.Tasks.{Task, Tell, Append, Swap, BeginOnly, Turn, Finish, Recover}
use Rattle.lab_core.specs.LabSteps.{DoesBy, StepOf, Does, IsDoneBy, does, no_memory, opened, not_opened, AppendEnds, whole, broken, IsAnswered, is_told, end_reply, turn_reply, done_reply, has_space, IfSpace, Appends, Swaps, Begins, JudgedBeside}
use Rattle.lab_core.specs.Recovery.{Recovers, settled, broken_off}
use Rattle.lab_core.specs.Sessions.{OpenSwap, Session, Closed, Open, Setting, After, names_of, Terms}
use Rattle.lab_tasks.specs.OpenNames.{is_among, name_of}
use Rattle.lab_judge.proofs.Fits.{IsFit, fits, is_outer}
use Rattle.lab_core.specs.Tells.{is_of_drill}

-- the reply is that to a drill, if there is one
abbrev pub of_drill_if : Option Reply → Bool
of_drill_if None = false
of_drill_if (Some reply) = is_of_drill reply

pub no_drill_of : (reply : Reply) → is_outer reply ≡ false → is_of_drill reply ≡ false
no_drill_of replies.Planned free = absurd (cc free)
no_drill_of replies.NoDrill free = absurd (cc free)
no_drill_of reply free = refl

-- WHAT IS DONE
pub breaks_so : (events : List Event) (reply : Option Reply) → Breaks events reply → of_drill_if reply ≡ false
breaks_so events reply (stopped ends is) = ap of_drill_if is
breaks_so events reply (failed once missed is) = ap of_drill_if is
breaks_so events reply (unanswered is) = ap of_drill_if is

done_so : (exp : List ℕ) (o : Option Mapped) → is_of_drill (done_reply exp o) ≡ false
done_so exp None = refl
done_so exp (Some m) = refl

end_so : (p : SwapOf) (outcome : Outcome) → of_drill_if (end_reply p outcome) ≡ false
end_so p (Ended Forth) = done_so p.name p.new
end_so p (Ended (Undo why)) = refl
end_so p (Ended Settling) = refl
end_so p (Stuck trouble) = refl
end_so p Unwritten = refl
end_so p Halted = refl
end_so p More = refl
end_so p (TurnsBack why) = refl

turn_so : (p : SwapOf) (outcome : Outcome) → of_drill_if (turn_reply p outcome) ≡ false
turn_so p More = refl
turn_so p (TurnsBack why) = refl
turn_so p (Ended leg) = end_so p (Ended leg)
turn_so p (Stuck trouble) = refl
turn_so p Unwritten = refl
turn_so p Halted = refl

module _ (set : Setting) (s : LabState) (opens : List OpenSwap) (own : List Event) (after : After) where
  if_space : (b : Bool) (Of : Type 0) (n : ℕ) → IfSpace b n s opens Of own after → (Of → of_drill_if after.reply ≡ false) → of_drill_if after.reply ≡ false
  if_space true Of n d by = by d
  if_space false Of n d by = ap (λ (x : After). of_drill_if x.reply) d.after_is

  ends_so : (state : LabState) (told : Reply) (run : Run) (more : List Event) → is_outer told ≡ false → AppendEnds s opens state told run more own after → of_drill_if after.reply ≡ false
  ends_so state told run more free (whole all none is) = ap (λ (x : After). of_drill_if x.reply) is ∙ no_drill_of told free
  ends_so state told run more free (broken breaks said which session) = breaks_so own after.reply breaks

  answered_so : (told : Option Reply) (to : List OpenSwap) (outcome : Outcome) (behind : List Event) → of_drill_if told ≡ false → IsAnswered told to outcome behind after → of_drill_if after.reply ≡ false
  answered_so told to outcome behind free (is_told starts reply session) = ap of_drill_if reply ∙ free

  recover_so : Recovers s opens own after → of_drill_if after.reply ≡ false
  recover_so (settled outcomes settles told session) = ap of_drill_if told
  recover_so (broken_off part breaks session) = breaks_so own after.reply breaks

  does_so : (command : Command) (busy : Bool) (count : ℕ) (judgement : Result Task Reply) → IsFit s command busy count judgement → Does set s opens judgement own after → of_drill_if after.reply ≡ false
  does_so command busy count (Err refusal) free d = ap (λ (x : After). of_drill_if x.reply) d.after_is ∙ no_drill_of refusal free
  does_so command busy count (Ok (Tell told)) free d = ap (λ (x : After). of_drill_if x.reply) d.after_is ∙ no_drill_of told free
  does_so command busy count (Ok (Append entry told)) free d = if_space (has_space set entry) (Appends s opens entry told own after) set.length d (λ a. ends_so a.state told a.run a.more free.0 a.ends)
  does_so command busy count (Ok (Swap exp way)) free d = if_space (has_space set (Begin exp way)) (Swaps s opens exp (Begin exp way) own after) set.length d (λ w. answered_so _ opens w.outcome w.behind (end_so w.swap w.outcome) w.answered)
  does_so command busy count (Ok (BeginOnly exp way)) free d = if_space (has_space set (Begin exp way)) (Begins s opens set.devices exp (Begin exp way) own after) set.length d (λ w. answered_so _ _ w.outcome w.behind (turn_so w.swap w.outcome) w.answered)
  does_so command busy count (Ok (Turn exp)) free d = answered_so _ _ d.outcome d.behind (turn_so d.one.swap.running.swap d.outcome) d.answered
  does_so command busy count (Ok (Finish exp)) free d = answered_so _ _ d.outcome d.behind (end_so d.one.swap.running.swap d.outcome) d.answered
  does_so command busy count (Ok Recover) free d = recover_so d

  by_so : (rule : RuleNumber) (command : Command) → IsDoneBy (JudgedBeside rule command opens s) set s opens own after → of_drill_if after.reply ≡ false
  by_so rule command (does judgement judged d) = does_so command (is_among (names_of opens) (name_of command)) (length opens) judgement (fits s (is_among (names_of opens) (name_of command)) (length opens) rule command judgement judged) d
  by_so rule command (no_memory wants) = ap (λ (x : After). of_drill_if x.reply) wants.after_is

pub step_so : (terms : Terms) (set : Setting) (s : LabState) (session : Session) (command : Command) (opening own : List Event) (after : After) → StepOf None (DoesBy (JudgedBeside terms.rule command) set) terms s session opening own after → of_drill_if after.reply ≡ false
step_so terms set s Closed command opening own after (opened mid opens d) = by_so set mid [] own after terms.rule command d
step_so terms set s Closed command opening own after (not_opened b) = breaks_so opening after.reply b.breaks
step_so terms set s (Open opens) command opening own after step = by_so set s opens own after terms.rule command step.1
