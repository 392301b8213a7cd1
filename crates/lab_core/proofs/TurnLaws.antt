-- Laws of turns: what a turn does, and what its reply tells of the lab.
use Rattle.std.proofs.Common.{◌≡◌, ◌⊎◌, inl, inr, ℕ, true, false, is_some, List, [], ◌++◌, Option, Some, None, Ok, refl, sym, ap, ◌∙◌, subst}
use Rattle.std.proofs.lemmas.List.{append-nil}
use Rattle.std.proofs.lemmas.Option.{same_Some}
use Rattle.plant.specs.Events.{Event}
use Rattle.plant.specs.declared.drill.Drill.{Drill}
use Rattle.journal_model.specs.Appends.{All, added}
use Rattle.swap_turns.specs.Pieces.{has_command, is_command}
use Rattle.swap_turns.proofs.Endings.{append_quiet}
use Rattle.swap_turns.proofs.Quiet.{shows}
use Rattle.lab_base.specs.declared.what.What.TheVariants as whats
use Rattle.lab_model.specs.Courses.{Trouble as AnyTrouble, Device, Late, Unlawful}
use Rattle.virt_topo.specs.declared.mapping.Mapped.{Mapped}
use Rattle.records_model.specs.Labs.{LabState, Commits, Aborts, moved}
use Rattle.script_text.specs.Replies.{closes}
use Rattle.script_text.specs.declared.command.Command.{Command}
use Rattle.script_text.specs.declared.reply.Reply.{Reply}
use Rattle.script_text.specs.declared.reply.Reply.TheVariants as replies
use Rattle.script_text.specs.declared.reply.FailedEnd.TheVariants as ends
use Rattle.swap_txn.specs.Troubles.{what_of}
use Rattle.swap_turns.specs.Finishing.{Finishes}
use Rattle.swap_turns.specs.Legs.{Forth, Undo, Settling, last}
use Rattle.swap_turns.specs.Records.{missed, nothing}
use Rattle.swap_turns.specs.Running.{OpenSwap as RunningSwap}
use Rattle.swap_turns.specs.Swaps.{Swap as SwapOf}
use Rattle.swap_turns.specs.Turning.{Outcome, More, TurnsBack, Ended, Stuck, Unwritten, Stopped as Halted, IsOneAtMost, IsOneCommand, TurnSteps}
use Rattle.swap_turns.proofs.Finishing.{onward_swap}
use Rattle.lab_core.specs.Breaks.{StartsAfter}
use Rattle.lab_tasks.specs.Tasks.{Turn, Finish}
use Rattle.lab_core.specs.LabSteps.{IsAnswered, is_told, done_reply, undone_end, end_reply, turn_reply, Turns, Drills, is_planned, is_refused, wants_memory}
use Rattle.lab_core.specs.Sessions.{OpenSwap, Session, Closed, Open, Setting, After, Terms}
use Rattle.lab_core.specs.Tells.{IsTurn, sends, appends, SendsOne, TellsEnd, has_journal_step, is_stopped}
use Rattle.lab_core.proofs.StepLaws.{Was, done, wanting, broke, drilled, none_told}

no_opening : {X : Type 0} (opens : List OpenSwap) → Open opens ≡ Closed → X
no_opening opens closed = absurd (cc closed)

not_drilled : {X : Type 0} (drill : Option Drill) → drill ≡ None → is_some drill ≡ true → X
not_drilled drill none some = let both : false ≡ true = ap is_some (sym none) ∙ some in absurd (cc both)

-- WHAT A TURN DID
module _ (own : List Event) (after : After) (reply : Reply) (is : after.reply ≡ Some reply) (open_still : closes reply ≡ false) (goes_on : is_stopped reply ≡ false) where
  one_command : (steps behind : List Event) → own ≡ steps ++ behind → behind ≡ [] → IsOneCommand steps → IsTurn own
  one_command steps behind own_is none one = sends (record { op = one.op; applied = one.applied; answer = one.answer; is = own_is ∙ ap (λ l. steps ++ l) none ∙ append-nil steps ∙ one.is })

  by_outcome : (s : LabState) (o : RunningSwap) (steps behind : List Event) (outcome : Outcome) → own ≡ steps ++ behind → StartsAfter outcome behind → after.reply ≡ turn_reply o.swap outcome → TurnSteps s o steps outcome after.lab → IsTurn own
  by_outcome s o steps behind More own_is starts told turn = one_command steps behind own_is starts turn.0
  by_outcome s o steps behind (TurnsBack why) own_is starts told turn = one_command steps behind own_is starts turn.0
  by_outcome s o steps behind (Stuck trouble) own_is starts told turn = one_command steps behind own_is starts turn.0
  by_outcome s o steps behind (Ended leg) own_is starts told turn =
      let whole = turn.0.1 in appends whole.side whole.gate (last o.swap leg) (own_is ∙ ap (λ l. steps ++ l) starts ∙ append-nil steps ∙ whole.steps_are)
  by_outcome s o steps behind Unwritten own_is starts told turn =
      let both : true ≡ false = ap closes (same_Some (replies.Failed o.swap.name ends.Stuck whats.Journal) reply (sym told ∙ is)) ∙ open_still in absurd (cc both)
  by_outcome s o steps behind Halted own_is starts told turn = let both : true ≡ false = ap is_stopped (same_Some replies.Stopped reply (sym told ∙ is)) ∙ goes_on in absurd (cc both)

  did_turn : (s : LabState) (opens : List OpenSwap) (exp : List ℕ) → Turns s opens exp own after → IsTurn own
  did_turn s opens exp d = by d.answered
    where
      by : {to : List OpenSwap} → IsAnswered (turn_reply d.one.swap.running.swap d.outcome) to d.outcome d.behind after → IsTurn own
      by (is_told starts told session) = by_outcome s d.one.swap.running d.steps d.behind d.outcome d.own_is starts told d.turn

  pub one_turn : (drill : Option Drill) (terms : Terms) (set : Setting) (s : LabState) (opens : List OpenSwap) (command : Command) (opening : List Event) (exp : List ℕ) → drill ≡ None → Was drill (Ok (Turn exp)) terms set s (Open opens) command opening own after → IsTurn own
  one_turn drill terms set s opens command opening exp no_drill (done mid others begins judged d) = did_turn mid others exp d
  one_turn drill terms set s opens command opening exp no_drill (wanting mid others begins wants) = none_told after.reply reply (ap (λ (a : After). a.reply) wants.after_is) is
  one_turn drill terms set s opens command opening exp no_drill (broke none closed breaks) = no_opening opens closed
  one_turn drill terms set s opens command opening exp no_drill (drilled some none drills) = not_drilled drill no_drill some

-- AT MOST ONE DEVICE COMMAND, and then no step of the journal
abbrev AtMostOne : List Event → Type 0
AtMostOne own = (has_command own ≡ false) ⊎ SendsOne own

nothing_sent : (steps : List Event) → steps ≡ [] → AtMostOne steps
nothing_sent steps none = inl (ap has_command none)

part_calm : (front steps behind : List Event) → steps ≡ front ++ behind → has_command front ≡ false → has_command behind ≡ false → has_command steps ≡ false
part_calm front steps behind is p q = shows is_command steps front behind false false is p q

abbrev OneOrNone : List Event → Type 0
OneOrNone steps = (has_command steps ≡ false) ⊎ IsOneCommand steps

turn_sends : (s after : LabState) (o : RunningSwap) (steps : List Event) (outcome : Outcome) → TurnSteps s o steps outcome after → OneOrNone steps
turn_sends s after o steps More turn = inr turn.0
turn_sends s after o steps (TurnsBack why) turn = inr turn.0
turn_sends s after o steps (Stuck trouble) turn = inr turn.0
turn_sends s after o steps (Ended leg) turn = let whole = turn.0.1 in inl (ap has_command whole.steps_are ∙ (append_quiet whole.side whole.gate (last o.swap leg) All).0)
turn_sends s after o steps Unwritten turn = let b = turn.1 in inl (part_calm (added b.side b.gate (last o.swap o.leg) b.run) steps (missed b.side) b.steps_are (append_quiet b.side b.gate (last o.swap o.leg) b.run).0 refl)
turn_sends s after o steps Halted (inl x) = by x.2
  where
    by : IsOneAtMost steps → OneOrNone steps
    by (inl none) = inl (ap has_command none)
    by (inr one) = inr one
turn_sends s after o steps Halted (inr x) = let b = x.1 in inl (part_calm (added b.side b.gate (last o.swap o.leg) b.run) steps (nothing b.side) b.steps_are (append_quiet b.side b.gate (last o.swap o.leg) b.run).0 refl)

with_after : (own steps behind : List Event) → own ≡ steps ++ behind → has_command behind ≡ false → has_journal_step behind ≡ false → OneOrNone steps → AtMostOne own
with_after own steps behind own_is no_command no_step (inl h) = inl (shows is_command own steps behind false false own_is h no_command)
with_after own steps behind own_is no_command no_step (inr one) = inr (record {
  op = one.op;
  applied = one.applied;
  answer = one.answer;
  behind = behind;
  is = own_is ∙ ap (λ l. l ++ behind) one.is;
  no_command = no_command;
  no_step = no_step;
})

none_calm : (behind : List Event) → behind ≡ [] → (has_command behind ≡ false) × (has_journal_step behind ≡ false)
none_calm behind none = (ap has_command none, ap has_journal_step none)

starts_calm : (outcome : Outcome) (behind : List Event) → StartsAfter outcome behind → (has_command behind ≡ false) × (has_journal_step behind ≡ false)
starts_calm Halted behind (a, b, is) = (ap has_command is, ap has_journal_step is)
starts_calm More behind none = none_calm behind none
starts_calm (TurnsBack why) behind none = none_calm behind none
starts_calm (Ended leg) behind none = none_calm behind none
starts_calm (Stuck trouble) behind none = none_calm behind none
starts_calm Unwritten behind none = none_calm behind none

pub answer_calm : (told : Option Reply) (to : List OpenSwap) (outcome : Outcome) (behind : List Event) (after : After) → IsAnswered told to outcome behind after → (has_command behind ≡ false) × (has_journal_step behind ≡ false)
answer_calm told to outcome behind after (is_told starts replied session) = starts_calm outcome behind starts

drills_nothing : (terms : Terms) (s : LabState) (session : Session) (own : List Event) (after : After) → Drills terms.takes s session own after → own ≡ []
drills_nothing terms s session own after (is_planned yes' none after_is) = none
drills_nothing terms s session own after (is_refused no' none after_is) = none
drills_nothing terms s session own after (wants_memory wants) = wants.nothing

pub turn_at_most_one : (drill : Option Drill) (terms : Terms) (set : Setting) (s : LabState) (session : Session) (command : Command) (opening own : List Event) (after : After) (exp : List ℕ) → Was drill (Ok (Turn exp)) terms set s session command opening own after
    → (has_command own ≡ false) ⊎ SendsOne own
turn_at_most_one drill terms set s session command opening own after exp (done mid opens begins judged d) =
    let calm = answer_calm _ _ d.outcome d.behind after d.answered in with_after own d.steps d.behind d.own_is calm.0 calm.1 (turn_sends mid after.lab d.one.swap.running d.steps d.outcome d.turn)
turn_at_most_one drill terms set s session command opening own after exp (wanting mid opens begins wants) = nothing_sent own wants.nothing
turn_at_most_one drill terms set s session command opening own after exp (broke none closed breaks) = nothing_sent own breaks.nothing
turn_at_most_one drill terms set s session command opening own after exp (drilled some none drills) = nothing_sent own (drills_nothing terms s session own after drills)

-- WHAT ITS REPLY TELLS OF THE LAB
module _ (s after : LabState) (exp : List ℕ) (reply : Reply) where
  abbrev Tells : Reply → Type 0
  Tells told = TellsEnd s exp told after

  tells_as : (told : Reply) → Some told ≡ Some reply → Tells told → Tells reply
  tells_as told is tells = subst (λ (r : Reply). Tells r) (same_Some told reply is) tells

  end_tells : (at : RunningSwap) (steps : List Event) (outcome : Outcome) → at.swap.name ≡ exp → end_reply at.swap outcome ≡ Some reply → TurnSteps s at steps outcome after → Tells reply
  end_tells at steps (Ended Forth) named is turn = tells_as (done_reply at.swap.name at.swap.new) is (by at.swap.new)
    where
      moves : moved s (Commits exp) ≡ Some after
      moves = ap (λ (n : List ℕ). moved s (Commits n)) (sym named) ∙ turn.0.1.moves

      by : (new : Option Mapped) → Tells (done_reply at.swap.name new)
      by None = (named, moves)
      by (Some m) = (named, moves)
  end_tells at steps (Ended (Undo why)) named is turn = tells_as (replies.Failed at.swap.name (undone_end at.swap.old) (what_of why)) is (by at.swap.old)
    where
      moves : moved s (Aborts exp) ≡ Some after
      moves = ap (λ (n : List ℕ). moved s (Aborts n)) (sym named) ∙ turn.0.1.moves

      by : (old : Option Mapped) → Tells (replies.Failed at.swap.name (undone_end old) (what_of why))
      by None = (named, moves)
      by (Some m) = (named, moves)
  end_tells at steps (Stuck trouble) named is turn = tells_as (replies.Failed at.swap.name ends.Stuck (what_of trouble)) is (by trouble)
    where
      by : (trouble : AnyTrouble) → Tells (replies.Failed at.swap.name ends.Stuck (what_of trouble))
      by (Device device) = (named, turn.3)
      by (Late node) = (named, turn.3)
      by (Unlawful node from to) = (named, turn.3)
  end_tells at steps Unwritten named is turn = tells_as (replies.Failed at.swap.name ends.Stuck whats.Journal) is named
  end_tells at steps Halted named is turn = tells_as replies.Stopped is tt
  end_tells at steps More named is turn = let none : None ≡ Some reply = is in absurd (cc none)
  end_tells at steps (TurnsBack why) named is turn = let none : None ≡ Some reply = is in absurd (cc none)
  end_tells at steps (Ended Settling) named is turn = let none : None ≡ Some reply = is in absurd (cc none)

  turned_tells : (at : RunningSwap) (steps : List Event) (outcome : Outcome) → at.swap.name ≡ exp → turn_reply at.swap outcome ≡ Some reply → TurnSteps s at steps outcome after → Tells reply
  turned_tells at steps More named is turn = tells_as (replies.More at.swap.name) is (named, turn.2)
  turned_tells at steps (TurnsBack why) named is turn = tells_as (replies.Trouble at.swap.name (what_of why)) is (named, turn.4)
  turned_tells at steps (Ended leg) named is turn = end_tells at steps (Ended leg) named is turn
  turned_tells at steps (Stuck trouble) named is turn = end_tells at steps (Stuck trouble) named is turn
  turned_tells at steps Unwritten named is turn = end_tells at steps Unwritten named is turn
  turned_tells at steps Halted named is turn = end_tells at steps Halted named is turn

  finished_tells : (o : RunningSwap) (steps : List Event) (outcome : Outcome) → o.swap.name ≡ exp → end_reply o.swap outcome ≡ Some reply → Finishes s o steps outcome after → Tells reply
  finished_tells o steps outcome named is f =
      let same : f.at.swap ≡ o.swap = onward_swap s o f.front f.at f.onward in
      end_tells f.at f.behind outcome (ap (λ (q : SwapOf). q.name) same ∙ named) (ap (λ (q : SwapOf). end_reply q outcome) same ∙ is) f.turn

module _ (own : List Event) (after : After) (reply : Reply) (is : after.reply ≡ Some reply) (s : LabState) (exp : List ℕ) where
  drill_tells : (terms : Terms) (session : Session) → Drills terms.takes s session own after → TellsEnd s exp reply after.lab
  drill_tells terms session (is_planned yes' none a) = tells_as s after.lab exp reply replies.Planned (sym (ap (λ (v : After). v.reply) a) ∙ is) tt
  drill_tells terms session (is_refused no' none a) = tells_as s after.lab exp reply replies.NoDrill (sym (ap (λ (v : After). v.reply) a) ∙ is) tt
  drill_tells terms session (wants_memory wants) = none_told after.reply reply (ap (λ (v : After). v.reply) wants.after_is) is

  answer_tells : (told : Option Reply) (to : List OpenSwap) (outcome : Outcome) (behind : List Event) → IsAnswered told to outcome behind after → told ≡ Some reply
  answer_tells told to outcome behind (is_told starts replied session) = sym replied ∙ is

  pub turn_tells : (drill : Option Drill) (terms : Terms) (set : Setting) (opens : List OpenSwap) (command : Command) (opening : List Event) → Was drill (Ok (Turn exp)) terms set s (Open opens) command opening own after → TellsEnd s exp reply after.lab
  turn_tells drill terms set opens command opening (done mid others begins judged d) =
      subst (λ (u : LabState). TellsEnd u exp reply after.lab) begins.at
      (turned_tells mid after.lab exp reply d.one.swap.running d.steps d.outcome d.one.name (answer_tells _ _ d.outcome d.behind d.answered) d.turn)
  turn_tells drill terms set opens command opening (wanting mid others begins wants) = none_told after.reply reply (ap (λ (a : After). a.reply) wants.after_is) is
  turn_tells drill terms set opens command opening (broke none closed breaks) = no_opening opens closed
  turn_tells drill terms set opens command opening (drilled some none drills) = drill_tells terms (Open opens) drills

  pub finish_tells : (drill : Option Drill) (terms : Terms) (set : Setting) (opens : List OpenSwap) (command : Command) (opening : List Event) → Was drill (Ok (Finish exp)) terms set s (Open opens) command opening own after → TellsEnd s exp reply after.lab
  finish_tells drill terms set opens command opening (done mid others begins judged d) =
      subst (λ (u : LabState). TellsEnd u exp reply after.lab) begins.at
      (finished_tells mid after.lab exp reply d.one.swap.running d.steps d.outcome d.one.name (answer_tells _ _ d.outcome d.behind d.answered) d.finishes)
  finish_tells drill terms set opens command opening (wanting mid others begins wants) = none_told after.reply reply (ap (λ (a : After). a.reply) wants.after_is) is
  finish_tells drill terms set opens command opening (broke none closed breaks) = no_opening opens closed
  finish_tells drill terms set opens command opening (drilled some none drills) = drill_tells terms (Open opens) drills
