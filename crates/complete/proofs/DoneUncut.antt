-- A judgement done among steps that go well: no course of it is cut.
use Rattle.std.specs.Prelude.{count_by, length}
use Rattle.std.specs.List.{list_any}
use Rattle.std.proofs.Common.{◌≡◌, ◌⊎◌, inl, inr, ℕ, ◌==◌, Bool, true, false, not, ◌||◌, List, [], ◌∷◌, ◌++◌, append_assoc, Option, Some, None, Result, Ok, Err, refl, sym, ◌∙◌, ap, subst}
use Rattle.lab_base.specs.Lists.{Has}
use Rattle.plant.specs.Events.{Event, Restarted}
use Rattle.virt_topo.specs.declared.mapping.Mapped.{Mapped}
use Rattle.journal_rec.specs.declared.record.Record.{Record}
use Rattle.journal_rec.specs.declared.record.Record.TheVariants.{Begin}
use Rattle.journal_model.specs.Appends.{Run}
use Rattle.swap_turns.specs.Pieces.{has_restart, is_miss, is_restart}
use Rattle.records_model.specs.Labs.{LabState, Move}
use Rattle.recovery.specs.Settle.{is_stuck}
use Rattle.cost_rule.specs.declared.rule.RuleNumber.{RuleNumber}
use Rattle.swap_turns.specs.Beginning.{opened as opened_swap}
use Rattle.swap_turns.specs.Legs.{Leg, Forth}
use Rattle.swap_turns.specs.Running.{OpenSwap as RunningSwap}
use Rattle.swap_turns.specs.Showing.{is_unwritten}
use Rattle.swap_turns.specs.Swaps.{Swap as SwapOf, Moves}
use Rattle.swap_turns.specs.Turning.{Outcome, More, TurnsBack, Ended, Stuck, Unwritten, Stopped as Halted}
use Rattle.swap_turns.specs.Whole.{SwapSteps, begun, unwritten, stopped as halted}
use Rattle.swap_turns.proofs.Showing.{swap_shows}
use Rattle.script_text.specs.declared.command.Command.{Command}
use Rattle.script_text.specs.declared.reply.Reply.{Reply}
use Rattle.lab_core.specs.Breaks.{Breaks, StartsAfter, stopped, failed, unanswered}
use Rattle.lab_tasks.specs.Tasks.{Task, Tell, Append, Swap, BeginOnly, Turn, Finish, Recover}
use Rattle.lab_core.specs.LabSteps.{AppendEnds, Appends, BeginSteps, Begins, Does, IfSpace, IsAnswered, IsDoneBy, IsOneOf, JudgedBeside, Swaps, broken, does, done_reply, end_reply, has_space, is_told, no_memory, turn_reply, whole}
use Rattle.lab_core.specs.Recovery.{Recovers, broken_off, settled}
use Rattle.lab_core.specs.Sessions.{OpenSwap, Setting, After, name_in, names_of}
use Rattle.lab_core.specs.Tells.{IsTurnOf}
use Rattle.lab_tasks.specs.OpenNames.{is_among, name_of}
use Rattle.complete.specs.Booted.{GoesWell}
use Rattle.complete.proofs.JudgedUncut.{cuts, IsJudgedUncut, judged_uncut}
use Rattle.complete.proofs.GoingWell.{EndsWell, IsSafe, any_front, finish_well, new_safe, settles_well, turn_well, well_after}

-- an open swap went forth alone, and isn't cut by these steps, which go well, as do some before them
pub record IsSafeFor (steps : List Event) (s : LabState) (o : OpenSwap) : Type 0 where
  pub forth : o.running.leg ≡ Forth
  pub past : List Event
  pub well : GoesWell (past ++ steps)
  pub safe : Moves o.running.swap s → IsSafe past s o.running

-- so is that which the command turns
abbrev pub AreSafe : List Event → Command → LabState → List OpenSwap → Type 0
AreSafe steps command s opens = (o : OpenSwap) → Has opens o → IsTurnOf (name_in o) command → IsSafeFor steps s o

abbrev pub cut_if : Option Reply → Bool
cut_if None = false
cut_if (Some reply) = cuts reply

or_after : (f : Event → Bool) (front behind : List Event) → list_any f behind ≡ true → list_any f (front ++ behind) ≡ true
or_after f [] behind is = is
or_after f (x ∷ front) behind is = by (f x) (or_after f front behind is)
  where
    by : (b : Bool) → list_any f (front ++ behind) ≡ true → b || list_any f (front ++ behind) ≡ true
    by true later = refl
    by false later = later

-- nothing breaks off among steps that go well
pub no_break : (events more : List Event) (reply : Option Reply) → Breaks events reply → GoesWell (events ++ more) → cut_if reply ≡ false
no_break events more reply (stopped ends is) well =
    absurd (cc (sym (any_front is_restart events more well.no_restart) ∙ (λ i. has_restart (ends.is i)) ∙ or_after is_restart ends.front (Restarted ends.a ends.b ∷ []) refl))
no_break events more reply (failed once missed is) well = absurd (cc (sym (any_front is_miss events more well.no_miss) ∙ missed))
no_break events more reply (unanswered is) well = ap cut_if is

-- no plant that stopped was started among them
no_start : (steps behind own more : List Event) → own ≡ steps ++ behind → StartsAfter Halted behind → GoesWell (own ++ more) → ⊥
no_start steps behind own more is starts well =
    cc (sym (any_front is_restart own more well.no_restart) ∙ ap has_restart is ∙ or_after is_restart steps behind (ap has_restart starts.2))

done_uncut : (exp : List ℕ) (m : Option Mapped) → cuts (done_reply exp m) ≡ false
done_uncut exp None = refl
done_uncut exp (Some m) = refl

-- A SWAP THAT WENT FORTH ALONE
end_uncut : (p : SwapOf) (leg : Leg) → leg ≡ Forth → cut_if (end_reply p (Ended leg)) ≡ false
end_uncut p leg is = subst (λ l. cut_if (end_reply p (Ended l)) ≡ false) (sym is) (done_uncut p.name p.new)

module _ (own more : List Event) (well : GoesWell (own ++ more)) where
  told_end : (p : SwapOf) (o : RunningSwap) (outcome : Outcome) (opens : List OpenSwap) (steps behind : List Event) (after : After) → o.leg ≡ Forth → own ≡ steps ++ behind → EndsWell o outcome → IsAnswered (end_reply p outcome) opens outcome behind after → cut_if after.reply ≡ false
  told_end p o outcome opens steps behind after forth own_is (inl is) (is_told starts reply session) = ap cut_if reply ∙ ap (λ x. cut_if (end_reply p x)) is ∙ end_uncut p o.leg forth
  told_end p o outcome opens steps behind after forth own_is (inr is) (is_told starts reply session) = absurd (no_start steps behind own more own_is (subst (λ x. StartsAfter x behind) is starts) well)

  told_turn : (p : SwapOf) (o : RunningSwap) (outcome : Outcome) (opens : List OpenSwap) (steps behind : List Event) (after : After) → o.leg ≡ Forth → own ≡ steps ++ behind → (outcome ≡ More) ⊎ EndsWell o outcome → IsAnswered (turn_reply p outcome) opens outcome behind after → cut_if after.reply ≡ false
  told_turn p o outcome opens steps behind after forth own_is (inl is) (is_told starts reply session) = ap cut_if reply ∙ ap (λ x. cut_if (turn_reply p x)) is
  told_turn p o outcome opens steps behind after forth own_is (inr (inl is)) (is_told starts reply session) = ap cut_if reply ∙ ap (λ x. cut_if (turn_reply p x)) is ∙ end_uncut p o.leg forth
  told_turn p o outcome opens steps behind after forth own_is (inr (inr is)) (is_told starts reply session) = absurd (no_start steps behind own more own_is (subst (λ x. StartsAfter x behind) is starts) well)

  front_well : (steps behind : List Event) → own ≡ steps ++ behind → GoesWell (steps ++ (behind ++ more))
  front_well steps behind is = subst GoesWell (ap (λ l. l ++ more) is ∙ append_assoc steps behind more) well

  -- a whole swap
  swap_ends : (p : SwapOf) (s : LabState) (begin : Record) (move : Move) (steps behind : List Event) (after : LabState) (outcome : Outcome) → own ≡ steps ++ behind → SwapSteps p s begin move steps after outcome → EndsWell (opened_swap p) outcome
  swap_ends p s begin move steps behind after outcome own_is (begun b) =
      let all = subst GoesWell (ap (λ l. l ++ (behind ++ more)) b.steps_are ∙ append_assoc b.front b.behind (behind ++ more)) (front_well steps behind own_is) in
      finish_well [] b.state (opened_swap p) (new_safe [] b.state (opened_swap p) refl) b.behind (behind ++ more) outcome after b.finishes (well_after b.front (b.behind ++ (behind ++ more)) all)
  swap_ends p s begin move steps behind after outcome own_is (unwritten is told) =
      absurd (cc (sym (any_front is_miss steps (behind ++ more) (front_well steps behind own_is).no_miss) ∙ (swap_shows p s begin move steps after outcome (unwritten is told)).miss_is ∙ ap is_unwritten told))
  swap_ends p s begin move steps behind after outcome own_is (halted is told) = inr told

  begin_ends : (p : SwapOf) (s : LabState) (begin : Record) (move : Move) (steps behind : List Event) (after : LabState) (outcome : Outcome) → own ≡ steps ++ behind → BeginSteps s begin move steps after outcome → (outcome ≡ More) ⊎ EndsWell (opened_swap p) outcome
  begin_ends p s begin move steps behind after More own_is is = inl refl
  begin_ends p s begin move steps behind after Halted own_is is = inr (inr refl)
  begin_ends p s begin move steps behind after Unwritten own_is is =
      absurd (cc (sym (any_front is_miss steps (behind ++ more) (front_well steps behind own_is).no_miss) ∙ (swap_shows p s begin move steps after Unwritten (unwritten is refl)).miss_is))
  begin_ends p s begin move steps behind after (TurnsBack why) own_is is = absurd is
  begin_ends p s begin move steps behind after (Ended leg) own_is is = absurd is
  begin_ends p s begin move steps behind after (Stuck trouble) own_is is = absurd is

  module _ (set : Setting) (s : LabState) (opens : List OpenSwap) (after : After) (command : Command) (safe : AreSafe (own ++ more) command s opens) where
    past_front : (past steps behind : List Event) → own ≡ steps ++ behind → GoesWell (past ++ (own ++ more)) → GoesWell (past ++ (steps ++ (behind ++ more)))
    past_front past steps behind is past_well = subst (λ l. GoesWell (past ++ l)) (ap (λ l. l ++ more) is ∙ append_assoc steps behind more) past_well

    if_space : (b : Bool) (Of : Type 0) (n : ℕ) → IfSpace b n s opens Of own after → (Of → cut_if after.reply ≡ false) → cut_if after.reply ≡ false
    if_space true Of n d by = by d
    if_space false Of n d by = ap (λ (x : After). cut_if x.reply) d.after_is

    append_uncut : (state : LabState) (told : Reply) (run : Run) (behind : List Event) → cuts told ≡ false → AppendEnds s opens state told run behind own after → cut_if after.reply ≡ false
    append_uncut state told run behind free (whole all none is) = ap (λ (x : After). cut_if x.reply) is ∙ free
    append_uncut state told run behind free (broken breaks answered which session) = no_break own more after.reply breaks well

    none_stuck : (n : ℕ) → n ≡ 0 → not (n == 0) ≡ false
    none_stuck n is = ap (λ k. not (k == 0)) is

    recover_uncut : Recovers s opens own after → cut_if after.reply ≡ false
    recover_uncut (settled outcomes settles told session) = ap cut_if told ∙ none_stuck (count_by is_stuck outcomes) (settles_well s _ outcomes own more after.lab settles well)
    recover_uncut (broken_off part breaks session) = no_break own more after.reply breaks well

    one_in : (exp : List ℕ) (one : IsOneOf opens exp) → Has opens one.swap
    one_in exp one = subst (λ l. Has l one.swap) (sym one.are) (there one.front)
      where
        there : (front : List OpenSwap) → Has (front ++ one.swap ∷ one.rest) one.swap
        there [] = inl refl
        there (x ∷ front) = inr (there front)

    pub does_uncut : (judgement : Result Task Reply) → IsJudgedUncut command judgement → Does set s opens judgement own after → cut_if after.reply ≡ false
    does_uncut (Err refusal) free d = ap (λ (x : After). cut_if x.reply) d.after_is ∙ free
    does_uncut (Ok (Tell told)) free d = ap (λ (x : After). cut_if x.reply) d.after_is ∙ free
    does_uncut (Ok (Append entry told)) free d = if_space (has_space set entry) (Appends s opens entry told own after) set.length d (λ a. append_uncut a.state told a.run a.more free a.ends)
    does_uncut (Ok (Swap exp way)) free d = if_space (has_space set (Begin exp way)) (Swaps s opens exp (Begin exp way) own after) set.length d
        (λ w. told_end w.swap (opened_swap w.swap) w.outcome opens w.steps w.behind after refl w.own_is (swap_ends w.swap s (Begin exp way) w.move w.steps w.behind after.lab w.outcome w.own_is w.ends) w.answered)
    does_uncut (Ok (BeginOnly exp way)) free d = if_space (has_space set (Begin exp way)) (Begins s opens set.devices exp (Begin exp way) own after) set.length d
        (λ w. told_turn w.swap (opened_swap w.swap) w.outcome _ w.steps w.behind after refl w.own_is (begin_ends w.swap s (Begin exp way) w.move w.steps w.behind after.lab w.outcome w.own_is w.begins) w.answered)
    does_uncut (Ok (Turn exp)) free d =
        let it = safe d.one.swap (one_in exp d.one) (subst (λ n. IsTurnOf n command) (sym d.one.name) free) in
        told_turn d.one.swap.running.swap d.one.swap.running d.outcome _ d.steps d.behind after it.forth d.own_is
        (turn_well it.past s d.one.swap.running (it.safe d.moves) d.steps (d.behind ++ more) d.outcome after.lab d.turn (past_front it.past d.steps d.behind d.own_is it.well)) d.answered
    does_uncut (Ok (Finish exp)) free d =
        let it = safe d.one.swap (one_in exp d.one) (subst (λ n. IsTurnOf n command) (sym d.one.name) free) in
        told_end d.one.swap.running.swap d.one.swap.running d.outcome _ d.steps d.behind after it.forth d.own_is
        (finish_well it.past s d.one.swap.running (it.safe d.moves) d.steps (d.behind ++ more) d.outcome after.lab d.finishes (past_front it.past d.steps d.behind d.own_is it.well)) d.answered
    does_uncut (Ok Recover) free d = recover_uncut d

    pub done_by_uncut : (rule : RuleNumber) → IsDoneBy (JudgedBeside rule command opens s) set s opens own after → cut_if after.reply ≡ false
    done_by_uncut rule (does judgement judged d) = does_uncut judgement (judged_uncut s (is_among (names_of opens) (name_of command)) (length opens) rule command judgement judged) d
    done_by_uncut rule (no_memory wants) = ap (λ (x : After). cut_if x.reply) wants.after_is
