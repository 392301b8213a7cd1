-- After the reply `stopped` no session is open.
use Rattle.std.proofs.Common.{◌≡◌, ℕ, Bool, true, false, List, Option, Some, None, Result, Ok, Err, refl, sym, ap, ◌∙◌}
use Rattle.std.specs.Prelude.{length}
use Rattle.std.proofs.lemmas.Option.{same_Some}
use Rattle.plant.specs.Events.{Event}
use Rattle.virt_topo.specs.declared.mapping.Mapped.{Mapped}
use Rattle.journal_rec.specs.declared.record.Record.TheVariants.{Begin}
use Rattle.journal_model.specs.Appends.{Run}
use Rattle.records_model.specs.Labs.{LabState}
use Rattle.swap_turns.specs.Legs.{Forth, Undo, Settling}
use Rattle.swap_turns.specs.Swaps.{Swap as SwapOf}
use Rattle.swap_turns.specs.Turning.{Outcome, Ended, Stuck, Unwritten, TurnsBack, More, Stopped as Halted}
use Rattle.script_text.specs.declared.command.Command.{Command}
use Rattle.script_text.specs.declared.command.Command.TheVariants as commands
use Rattle.script_text.specs.declared.reply.Reply.{Reply}
use Rattle.script_text.specs.declared.reply.Reply.TheVariants as replies
use Rattle.lab_tasks.specs.Tasks.{Task, Tell, Append, Swap, BeginOnly, Turn, Finish, Recover}
use Rattle.lab_tasks.specs.OpenNames.{is_among, name_of}
use Rattle.lab_judge.proofs.Fits.{IsFit, fits, is_outer}
use Rattle.lab_core.specs.Auditing.{Audits, no_lab, told, unread, no_memory as audit_no_memory}
use Rattle.lab_core.specs.BatchList.{runs_in_turn}
use Rattle.lab_core.specs.Commands.{DoesCommand, ground_by}
use Rattle.lab_core.specs.LabSteps.{Does, IsDoneBy, does, no_memory, JudgedBeside, AppendEnds, whole, broken, IsAnswered, is_told, end_reply, turn_reply, end_session, done_reply, has_space, IfSpace, Appends, Swaps, Begins}
use Rattle.lab_core.specs.Lists.{DoesList, Ground, Listing, broken as list_broken, listed, no_memory as list_no_memory, over, refused, wanting}
use Rattle.lab_core.specs.PlayList.{events_in_turn}
use Rattle.lab_core.specs.Recovery.{Recovers, settled, broken_off}
use Rattle.lab_core.specs.Sessions.{OpenSwap, Closed, Setting, After, names_of, Terms}
use Rattle.lab_core.specs.Tells.{is_stopped}
use Rattle.lab_core.proofs.ListSteps.{TellsOfWhole, batches_any, playing, plays_any, serving}
use Rattle.lab_core.proofs.OuterSteps.{tells_step}

abbrev Shuts : After → Type 0
Shuts after = after.reply ≡ Some replies.Stopped → after.session ≡ Closed

-- a reply that isn't `stopped`
inner_told : (reply : Reply) → is_outer reply ≡ false → is_stopped reply ≡ false
inner_told replies.Stopped free = absurd (cc free)
inner_told reply free = refl

calm_told : (reply : Reply) → tells_step reply ≡ false → is_stopped reply ≡ false
calm_told replies.Stopped calm = absurd (cc calm)
calm_told reply calm = refl

module _ (after : After) where
  other_told : (reply : Reply) → is_stopped reply ≡ false → after.reply ≡ Some reply → Shuts after
  other_told reply other is stops = let both : true ≡ false = sym (ap is_stopped (same_Some reply replies.Stopped (sym is ∙ stops))) ∙ other in absurd (cc both)

  none_told : after.reply ≡ None → Shuts after
  none_told is stops = absurd (cc (sym is ∙ stops))

done_other : (exp : List ℕ) (o : Option Mapped) → is_stopped (done_reply exp o) ≡ false
done_other exp None = refl
done_other exp (Some m) = refl

-- a swap whose outcome is told so
end_shut : (p : SwapOf) (to : List OpenSwap) (outcome : Outcome) → end_reply p outcome ≡ Some replies.Stopped → end_session to outcome ≡ Closed
end_shut p to Halted is = refl
end_shut p to Unwritten is = refl
end_shut p to (Ended Forth) is = let both : true ≡ false = sym (ap is_stopped (same_Some (done_reply p.name p.new) replies.Stopped is)) ∙ done_other p.name p.new in absurd (cc both)
end_shut p to (Ended (Undo why)) is = absurd (cc is)
end_shut p to (Ended Settling) is = absurd (cc is)
end_shut p to (Stuck why) is = absurd (cc is)
end_shut p to More is = absurd (cc is)
end_shut p to (TurnsBack why) is = absurd (cc is)

turn_shut : (p : SwapOf) (to : List OpenSwap) (outcome : Outcome) → turn_reply p outcome ≡ Some replies.Stopped → end_session to outcome ≡ Closed
turn_shut p to More is = absurd (cc is)
turn_shut p to (TurnsBack why) is = absurd (cc is)
turn_shut p to (Ended leg) is = end_shut p to (Ended leg) is
turn_shut p to (Stuck why) is = end_shut p to (Stuck why) is
turn_shut p to Unwritten is = refl
turn_shut p to Halted is = refl

module _ (set : Setting) (s : LabState) (opens : List OpenSwap) (own : List Event) (after : After) where
  if_space : (b : Bool) (Of : Type 0) (n : ℕ) → IfSpace b n s opens Of own after → (Of → Shuts after) → Shuts after
  if_space true Of n d by = by d
  if_space false Of n d by = other_told after (replies.FullJournal n) refl (ap (λ (x : After). x.reply) d.after_is)

  append_shut : (state : LabState) (said : Reply) (run : Run) (more : List Event) → is_outer said ≡ false → AppendEnds s opens state said run more own after → Shuts after
  append_shut state said run more free (whole all none is) = other_told after said (inner_told said free) (ap (λ (x : After). x.reply) is)
  append_shut state said run more free (broken breaks some which session) = λ is. session

  answered_shut : (reply : Option Reply) (to : List OpenSwap) (outcome : Outcome) (behind : List Event) → (reply ≡ Some replies.Stopped → end_session to outcome ≡ Closed) → IsAnswered reply to outcome behind after → Shuts after
  answered_shut reply to outcome behind each (is_told starts replied session) = λ is. session ∙ each (sym replied ∙ is)

  recover_shut : Recovers s opens own after → Shuts after
  recover_shut (settled outcomes settles replied session) = other_told after _ refl replied
  recover_shut (broken_off part breaks session) = λ is. session

  does_shut : (command : Command) (busy : Bool) (count : ℕ) (judgement : Result Task Reply) → IsFit s command busy count judgement → Does set s opens judgement own after → Shuts after
  does_shut command busy count (Err refusal) free d = other_told after refusal (inner_told refusal free) (ap (λ (x : After). x.reply) d.after_is)
  does_shut command busy count (Ok (Tell said)) free d = other_told after said (inner_told said free) (ap (λ (x : After). x.reply) d.after_is)
  does_shut command busy count (Ok (Append entry said)) free d = if_space (has_space set entry) (Appends s opens entry said own after) set.length d (λ a. append_shut a.state said a.run a.more free.0 a.ends)
  does_shut command busy count (Ok (Swap exp way)) free d = if_space (has_space set (Begin exp way)) (Swaps s opens exp (Begin exp way) own after) set.length d (λ w. answered_shut _ opens w.outcome w.behind (end_shut w.swap opens w.outcome) w.answered)
  does_shut command busy count (Ok (BeginOnly exp way)) free d = if_space (has_space set (Begin exp way)) (Begins s opens set.devices exp (Begin exp way) own after) set.length d (λ w. answered_shut _ _ w.outcome w.behind (turn_shut w.swap _ w.outcome) w.answered)
  does_shut command busy count (Ok (Turn exp)) free d = answered_shut _ _ d.outcome d.behind (turn_shut d.one.swap.running.swap _ d.outcome) d.answered
  does_shut command busy count (Ok (Finish exp)) free d = answered_shut _ _ d.outcome d.behind (end_shut d.one.swap.running.swap _ d.outcome) d.answered
  does_shut command busy count (Ok Recover) free d = recover_shut d

  done_shut : (command : Command) (terms : Terms) → IsDoneBy (JudgedBeside terms.rule command opens s) set s opens own after → Shuts after
  done_shut command terms (no_memory wants) = none_told after (ap (λ (x : After). x.reply) wants.after_is)
  done_shut command terms (does judgement judged d) =
      does_shut command (is_among (names_of opens) (name_of command)) (length opens) judgement (fits s (is_among (names_of opens) (name_of command)) (length opens) terms.rule command judgement judged) d

  -- a list of commands
  list_shut : {X : Type 0} (l : Listing X) (JudgedList : Result X Reply → Type 0) → TellsOfWhole l JudgedList → (base : Ground) (trace : Option (List Event)) → DoesList l JudgedList base trace s opens own after → Shuts after
  list_shut l JudgedList tells base trace (refused reply judged d) = other_told after reply (inner_told reply (tells.refuses reply judged)) (ap (λ (x : After). x.reply) d.after_is)
  list_shut l JudgedList tells base trace (list_no_memory wants) = none_told after (ap (λ (x : After). x.reply) wants.after_is)
  list_shut l JudgedList tells base trace (listed start judged (over at lab to past ends is)) = other_told after (l.whole at) (calm_told (l.whole at) (tells.calm at)) (ap (λ (x : After). x.reply) is)
  list_shut l JudgedList tells base trace (listed start judged (list_broken front steps at mid between reply lab own_is past next is)) = λ stops. ap (λ (x : After). x.session) is
  list_shut l JudgedList tells base trace (listed start judged (wanting at lab to past is)) = λ stops. ap (λ (x : After). x.session) is

  audit_shut : (trace : Option (List Event)) → Audits trace s opens own after → Shuts after
  audit_shut trace (no_lab none d) = other_told after replies.NoLab refl (ap (λ (x : After). x.reply) d.after_is)
  audit_shut trace (told report nothing tells is) = other_told after (replies.Audit report) refl (ap (λ (x : After). x.reply) is)
  audit_shut trace (unread name own_is is) = other_told after (replies.Unread name) refl (ap (λ (x : After). x.reply) is)
  audit_shut trace (audit_no_memory wants) = none_told after (ap (λ (x : After). x.reply) wants.after_is)

-- WHAT AN OPEN CONTROLLER DOES of a command
pub command_shut : (rule : Terms) (command : Command) (trace : Option (List Event)) (set : Setting) (opens : List OpenSwap) (s : LabState) (own : List Event) (after : After) → DoesCommand rule.rule command trace set opens s own after → after.reply ≡ Some replies.Stopped → after.session ≡ Closed
command_shut terms (commands.Play exp from until lines text) trace set opens s own after d =
    list_shut set s opens own after (events_in_turn exp) (playing exp from until text opens s) ((plays_any exp from until text).tells opens s) (ground_by set) trace d
command_shut terms (commands.Batch moment lines text) trace set opens s own after d =
    list_shut set s opens own after (runs_in_turn terms.rule moment) (serving text opens s) ((batches_any terms.rule moment text).tells opens s) (ground_by set) trace d
command_shut terms commands.Audit trace set opens s own after d = audit_shut set s opens own after trace d
command_shut terms command trace set opens s own after d = done_shut set s opens own after command terms d
