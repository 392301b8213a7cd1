-- A turn that goes on sends one command, and no more of them than its swap has.
use Rattle.std.proofs.Common.{◌≡◌, inl, ℕ, ◌^◌, Bool, true, false, List, [], ◌∷◌, ◌++◌, length, Option, Some, None, Result, Ok, Err, refl, sym, ◌∙◌, ap, subst, arith}
use Rattle.std.proofs.lemmas.List.{append-nil}
use Rattle.std.proofs.lemmas.Option.{same_Some}
use Rattle.lab_base.proofs.Members.{Has-right}
use Rattle.lab_base.specs.Lists.{Has}
use Rattle.plant.specs.Events.{Event}
use Rattle.plant.specs.Told.{Told}
use Rattle.virt_topo.specs.declared.mapping.Mapped.{Mapped}
use Rattle.records_model.specs.Labs.{LabState}
use Rattle.records_model.specs.Works.{IsSound}
use Rattle.lab_state.specs.Texts.{the_texts}
use Rattle.swap_turns.specs.Legs.{Forth, Settling, Undo}
use Rattle.swap_turns.specs.Swaps.{Swap as SwapOf}
use Rattle.swap_turns.specs.Turning.{Outcome, More, TurnsBack, Ended, Stuck, Unwritten, Stopped as Halted, TurnSteps}
use Rattle.script_text.specs.declared.command.Command.{Command}
use Rattle.script_text.specs.declared.command.Command.TheVariants.{Turn as TurnOf}
use Rattle.script_text.specs.declared.reply.Reply.{Reply}
use Rattle.script_text.specs.declared.reply.Reply.TheVariants as replies
use Rattle.lab_tasks.specs.Tasks.{Task, Turn}
use Rattle.lab_judge.specs.Judge.{judged_turn}
use Rattle.lab_tasks.specs.OpenNames.{is_among}
use Rattle.lab_core.specs.Breaks.{Breaks, failed, stopped, unanswered}
use Rattle.lab_core.specs.Commands.{LabStep}
use Rattle.lab_core.specs.LabSteps.{Does, IsAnswered, IsDoneBy, JudgedBeside, Turns, does, done_reply, end_reply, is_told, no_memory, not_opened, opened, turn_reply, turned_on}
use Rattle.lab_core.specs.Sessions.{After, Closed, Open, OpenSwap, Session, Setting, Terms, names_of}
use Rattle.lab_core.specs.Tells.{BeginsAt, is_of_steps, opens_of}
use Rattle.lab_top.specs.declared.status.Status.{Status}
use Rattle.lab_top.specs.Pieces.{Begun, ButForReply, FirstLab, is_early, trace_after}
use Rattle.lab_top.specs.Ran.{Outside, Ran}
use Rattle.lab_words.specs.Words.{Choices}
use Rattle.lab_top.proofs.RunLaws.{done}
use Rattle.complete.specs.Bounds.{commands_in}
use Rattle.complete.specs.Sends.{TurnsOn}
use Rattle.complete.proofs.Sending.{commands_both, open_few}
use Rattle.complete.proofs.StepSends.{one_in}

-- only a turn that goes on is answered `more`
none_more : {X : Type 0} (exp : List ℕ) → None ≡ Some (replies.More exp) → X
none_more exp is = absurd (cc is)

done_more : {X : Type 0} (name : List ℕ) (new : Option Mapped) (exp : List ℕ) → done_reply name new ≡ replies.More exp → X
done_more name None exp is = absurd (cc is)
done_more name (Some m) exp is = absurd (cc is)

end_more : {X : Type 0} (p : SwapOf) (outcome : Outcome) (exp : List ℕ) → end_reply p outcome ≡ Some (replies.More exp) → X
end_more p (Ended Forth) exp is = done_more p.name p.new exp (same_Some _ _ is)
end_more p (Ended (Undo why)) exp is = absurd (cc is)
end_more p (Ended Settling) exp is = none_more exp is
end_more p (Stuck why) exp is = absurd (cc is)
end_more p Unwritten exp is = absurd (cc is)
end_more p Halted exp is = absurd (cc is)
end_more p More exp is = none_more exp is
end_more p (TurnsBack why) exp is = none_more exp is

abbrev IsTurnJudged : List ℕ → Result Task Reply → Type 0
IsTurnJudged exp (Ok (Turn own)) = own ≡ exp
IsTurnJudged exp (Err refusal) = is_of_steps refusal ≡ false
IsTurnJudged exp judgement = ⊥

turn_judged : (s : LabState) (busy : Bool) (exp : List ℕ) → IsTurnJudged exp (judged_turn s busy exp)
turn_judged s busy exp = grind arith

same_open : (a b : List OpenSwap) → Open a ≡ Open b → a ≡ b
same_open a b is = cc is

-- ITS OWN PART, with these open swaps
module _ (set : Setting) (s : LabState) (opens : List OpenSwap) (own : List Event) (after : After) (to : List OpenSwap) (exp : List ℕ) (replied : after.reply ≡ Some (replies.More exp)) (open_now : after.session ≡ Open to) where
  turns_on : Turns s opens exp own after → TurnsOn s opens to exp own
  turns_on d = by d.outcome d.turn d.answered
    where
      by : (outcome : Outcome) → TurnSteps s d.one.swap.running d.steps outcome after.lab → IsAnswered (turn_reply d.one.swap.running.swap outcome) (d.one.front ++ (turned_on d.one.swap d.steps outcome ++ d.one.rest)) outcome d.behind after → TurnsOn s opens to exp own
      by More turn (is_told starts told session) =
          let own_is : own ≡ d.steps = d.own_is ∙ ap (λ l. d.steps ++ l) starts ∙ append-nil d.steps in
          let next : OpenSwap = record d.one.swap { running = record d.one.swap.running { course = d.one.swap.running.course ++ d.steps } } in
          let to_is = same_open (d.one.front ++ (turned_on d.one.swap d.steps More ++ d.one.rest)) to (sym session ∙ open_now) in
          record {
            swap = d.one.swap;
            is_open = one_in opens exp d.one;
            named = d.one.name;
            moves = d.moves;
            next = next;
            stays_open = subst (λ l. Has l next) to_is (Has-right d.one.front (next ∷ d.one.rest) next (inl refl));
            longer = ap (λ l. record d.one.swap.running { course = d.one.swap.running.course ++ l }) (sym own_is);
            one = omega (arith, ap commands_in own_is, ap commands_in turn.0.is);
            few = omega (arith, commands_both d.one.swap.running.course d.steps, open_few s d.one.swap.running d.steps More after.lab turn);
          }
      by (TurnsBack why) turn (is_told starts told session) = absurd (cc (sym told ∙ replied))
      by (Ended leg) turn (is_told starts told session) = end_more d.one.swap.running.swap (Ended leg) exp (sym told ∙ replied)
      by (Stuck why) turn (is_told starts told session) = end_more d.one.swap.running.swap (Stuck why) exp (sym told ∙ replied)
      by Unwritten turn (is_told starts told session) = end_more d.one.swap.running.swap Unwritten exp (sym told ∙ replied)
      by Halted turn (is_told starts told session) = end_more d.one.swap.running.swap Halted exp (sym told ∙ replied)

  does_on : (j : Result Task Reply) → IsTurnJudged exp j → Does set s opens j own after → TurnsOn s opens to exp own
  does_on (Ok (Turn e)) is d = turns_on (subst (λ n. Turns s opens n own after) is d)
  does_on (Err refusal) is d =
      let same : refusal ≡ replies.More exp = same_Some _ _ (sym (ap (λ (a : After). a.reply) d.after_is) ∙ replied) in
      let both : false ≡ true = sym is ∙ ap is_of_steps same in
      absurd (cc both)
  does_on j is d = absurd is

  done_on : (terms : Terms) → IsDoneBy (JudgedBeside terms.rule (TurnOf exp) opens s) set s opens own after → TurnsOn s opens to exp own
  done_on terms (does j judged d) = does_on j (subst (IsTurnJudged exp) (sym judged) (turn_judged s (is_among (names_of opens) (Some exp)) exp)) d
  done_on terms (no_memory wants) = none_more exp (sym (ap (λ (a : After). a.reply) wants.after_is) ∙ replied)

-- A LAB STEP
broken_more : {X : Type 0} (events : List Event) (reply : Option Reply) (exp : List ℕ) → reply ≡ Some (replies.More exp) → Breaks events reply → X
broken_more events reply exp is (stopped ends told) = absurd (cc (sym told ∙ is))
broken_more events reply exp is (failed once miss told) = absurd (cc (sym told ∙ is))
broken_more events reply exp is (unanswered told) = none_more exp (sym told ∙ is)

module _ (terms : Terms) (at : Option (List Event)) (set : Setting) (s : LabState) (opening own : List Event) (after : After) (to : List OpenSwap) (exp : List ℕ) (replied : after.reply ≡ Some (replies.More exp)) (open_now : after.session ≡ Open to) where
  pub step_on : (session : Session) → LabStep terms at set s session (TurnOf exp) opening own after → (mid : LabState) × BeginsAt session s opening mid × TurnsOn mid (opens_of session) to exp own
  step_on Closed (opened mid opens d) = (mid, opens, done_on set mid [] own after to exp replied open_now terms d)
  step_on Closed (not_opened b) = broken_more opening after.reply exp replied b.breaks
  step_on (Open opens) d = (s, refl, done_on set s opens own after to exp replied open_now terms d.1)

-- A TURN OF A RUN
module _ (terms : Terms) (choices : Option Choices) (old new : Outside) (status : Status) (before after : List Begun) (b : Begun) (t : Told) (ran : Ran terms choices old new status (before ++ b ∷ after)) (told : old.plant.told ≡ Some t) (sound : IsSound the_texts t.trace) where
  pub turn_goes_on : (exp : List ℕ) (to : List OpenSwap) → b.piece.command ≡ TurnOf exp → b.piece.reply ≡ Some (replies.More exp) → b.piece.to ≡ Open to
      → (s : LabState) × FirstLab (is_early b.piece) (trace_after t.trace before) s × (mid : LabState) × BeginsAt b.piece.from s b.piece.opening mid × TurnsOn mid (opens_of b.piece.from) to exp b.piece.own
  turn_goes_on exp to asks replied open_now =
      let l = (done terms choices old new status before after b t ran told sound).leads in
      let so : (l.steps.told ≡ Some (replies.More exp)) × (l.steps.session ≡ b.piece.to) × (l.steps.behind ≡ []) =
      subst (λ (o : Option Reply). ButForReply o b.piece.to l.steps.told l.steps.session l.steps.behind) replied l.steps.is_told in
      let own_is : b.piece.own ++ l.steps.behind ≡ b.piece.own = ap (λ m. b.piece.own ++ m) so.2 ∙ append-nil b.piece.own in
      let set : Setting = record { length = l.steps.length; limit = 2 ^ 32; devices = b.piece.faults.devices } in
      let ends : After = record { reply = l.steps.told; lab = l.last; session = l.steps.session } in
      let step = subst (λ (c : Command). LabStep terms (Some (trace_after t.trace before)) set l.first b.piece.from c b.piece.opening (b.piece.own ++ l.steps.behind) ends) asks l.steps.step in
      let on = step_on terms (Some (trace_after t.trace before)) set l.first b.piece.opening (b.piece.own ++ l.steps.behind) ends to exp so.0 (so.1 ∙ open_now) b.piece.from step in
      (l.first, l.before, on.0, on.1, subst (λ m. TurnsOn on.0 (opens_of b.piece.from) to exp m) own_is on.2)
