-- A command that turns a swap or settles never tells that the journal is full.
use Rattle.std.specs.Prelude.{length}
use Rattle.std.proofs.Common.{◌≡◌, ℕ, Bool, true, false, List, [], Option, Some, None, Result, Ok, Err, refl, ◌∙◌, ap, arith}
use Rattle.plant.specs.Events.{Event}
use Rattle.virt_topo.specs.declared.mapping.Mapped.{Mapped}
use Rattle.cost_rule.specs.declared.rule.RuleNumber.{RuleNumber}
use Rattle.records_model.specs.Labs.{LabState}
use Rattle.swap_turns.specs.Legs.{Forth, Undo, Settling}
use Rattle.swap_turns.specs.Swaps.{Swap as SwapOf}
use Rattle.swap_turns.specs.Turning.{Outcome, More, TurnsBack, Ended, Stuck, Unwritten, Stopped as Halted}
use Rattle.script_text.specs.Drills.{drill_of}
use Rattle.script_text.specs.declared.command.Command.{Command}
use Rattle.script_text.specs.declared.command.Command.TheVariants.{Play, Batch, Audit}
use Rattle.script_text.specs.declared.reply.Reply.{Reply}
use Rattle.lab_core.specs.Breaks.{Breaks, stopped, failed, unanswered}
use Rattle.lab_tasks.specs.Tasks.{Task, Tell, Append, Swap, BeginOnly, Turn, Finish, Recover}
use Rattle.lab_judge.specs.Judge.{Judged, is_unjudged}
use Rattle.lab_core.specs.Commands.{LabStep}
use Rattle.lab_core.specs.LabSteps.{Does, DoesBy, Drills, IsAnswered, IsDoneBy, JudgedBeside, StepOf, does, done_reply, end_reply, is_planned, is_refused, is_told, no_memory, not_opened, opened, turn_reply, wants_memory}
use Rattle.lab_core.specs.Recovery.{Recovers, broken_off, settled}
use Rattle.lab_core.specs.Sessions.{OpenSwap, Session, Closed, Open, Setting, After, Terms, names_of}
use Rattle.lab_tasks.specs.OpenNames.{is_among, name_of}
use Rattle.lab_core.proofs.ListSteps.{plain_step}
use Rattle.complete.specs.Full.{is_full, full_if, settles_or_turns}

-- what is judged of such a command: a refusal, or to turn or to settle
abbrev IsTurning : Result Task Reply → Type 0
IsTurning (Err refusal) = is_full refusal ≡ false
IsTurning (Ok (Turn exp)) = Unit {0}
IsTurning (Ok (Finish exp)) = Unit {0}
IsTurning (Ok Recover) = Unit {0}
IsTurning (Ok task) = ⊥

turning : (s : LabState) (busy : Bool) (count : ℕ) (rule : RuleNumber) (command : Command) (j : Result Task Reply) → settles_or_turns command ≡ true → Judged rule s busy count command j → IsTurning j
turning s busy count rule command j turns is = grind arith

breaks_not : (events : List Event) (reply : Option Reply) → Breaks events reply → full_if reply ≡ false
breaks_not events reply (stopped ends is) = ap full_if is
breaks_not events reply (failed once missed is) = ap full_if is
breaks_not events reply (unanswered is) = ap full_if is

done_not : (exp : List ℕ) (m : Option Mapped) → is_full (done_reply exp m) ≡ false
done_not exp None = refl
done_not exp (Some m) = refl

end_not : (p : SwapOf) (outcome : Outcome) → full_if (end_reply p outcome) ≡ false
end_not p (Ended Forth) = done_not p.name p.new
end_not p (Ended (Undo why)) = refl
end_not p (Ended Settling) = refl
end_not p (Stuck trouble) = refl
end_not p Unwritten = refl
end_not p Halted = refl
end_not p More = refl
end_not p (TurnsBack why) = refl

turn_not : (p : SwapOf) (outcome : Outcome) → full_if (turn_reply p outcome) ≡ false
turn_not p More = refl
turn_not p (TurnsBack why) = refl
turn_not p (Ended leg) = end_not p (Ended leg)
turn_not p (Stuck trouble) = refl
turn_not p Unwritten = refl
turn_not p Halted = refl

answered_not : (told : Option Reply) (to : List OpenSwap) (outcome : Outcome) (behind : List Event) (after : After) → full_if told ≡ false → IsAnswered told to outcome behind after → full_if after.reply ≡ false
answered_not told to outcome behind after free (is_told starts reply session) = ap full_if reply ∙ free

recover_not : (s : LabState) (opens : List OpenSwap) (own : List Event) (after : After) → Recovers s opens own after → full_if after.reply ≡ false
recover_not s opens own after (settled outcomes settles told session) = ap full_if told
recover_not s opens own after (broken_off part breaks session) = breaks_not own after.reply breaks

does_not : (set : Setting) (s : LabState) (opens : List OpenSwap) (j : Result Task Reply) (own : List Event) (after : After) → IsTurning j → Does set s opens j own after → full_if after.reply ≡ false
does_not set s opens (Err refusal) own after free d = ap (λ (x : After). full_if x.reply) d.after_is ∙ free
does_not set s opens (Ok (Turn exp)) own after free d = answered_not _ _ d.outcome d.behind after (turn_not d.one.swap.running.swap d.outcome) d.answered
does_not set s opens (Ok (Finish exp)) own after free d = answered_not _ _ d.outcome d.behind after (end_not d.one.swap.running.swap d.outcome) d.answered
does_not set s opens (Ok Recover) own after free d = recover_not s opens own after d
does_not set s opens (Ok (Tell told)) own after free d = absurd free
does_not set s opens (Ok (Append entry told)) own after free d = absurd free
does_not set s opens (Ok (Swap exp way)) own after free d = absurd free
does_not set s opens (Ok (BeginOnly exp way)) own after free d = absurd free

done_by_not : (set : Setting) (s : LabState) (opens : List OpenSwap) (rule : RuleNumber) (command : Command) (own : List Event) (after : After) → settles_or_turns command ≡ true → IsDoneBy (JudgedBeside rule command opens s) set s opens own after → full_if after.reply ≡ false
done_by_not set s opens rule command own after turns (does j judged d) = does_not set s opens j own after (turning s (is_among (names_of opens) (name_of command)) (length opens) rule command j turns judged) d
done_by_not set s opens rule command own after turns (no_memory wants) = ap (λ (x : After). full_if x.reply) wants.after_is

drill_not : (takes : Bool) (s : LabState) (session : Session) (own : List Event) (after : After) → Drills takes s session own after → full_if after.reply ≡ false
drill_not takes s session own after (is_planned t none is) = ap (λ (x : After). full_if x.reply) is
drill_not takes s session own after (is_refused t none is) = ap (λ (x : After). full_if x.reply) is
drill_not takes s session own after (wants_memory wants) = ap (λ (x : After). full_if x.reply) wants.after_is

-- a single judgement decides it
judged_alone : (command : Command) → settles_or_turns command ≡ true → is_unjudged command ≡ false
judged_alone (Play exp from to lines text) is = absurd (cc is)
judged_alone (Batch moment lines text) is = absurd (cc is)
judged_alone Audit is = absurd (cc is)
judged_alone command is = refl

pub step_not : (terms : Terms) (at : Option (List Event)) (set : Setting) (s : LabState) (session : Session) (command : Command) (opening own : List Event) (after : After) → settles_or_turns command ≡ true → LabStep terms at set s session command opening own after → full_if after.reply ≡ false
step_not terms at set s session command opening own after turns step = by (drill_of command) session (plain_step terms at set s session command opening own after (judged_alone command turns) step)
  where
    by : (drill : Option _) (session : Session) → StepOf drill (DoesBy (JudgedBeside terms.rule command) set) terms s session opening own after → full_if after.reply ≡ false
    by (Some drill) session step = drill_not terms.takes s session own after step.1
    by None Closed (opened mid opens d) = done_by_not set mid [] terms.rule command own after turns d
    by None Closed (not_opened b) = breaks_not opening after.reply b.breaks
    by None (Open opens) step = done_by_not set s opens terms.rule command own after turns step.1
