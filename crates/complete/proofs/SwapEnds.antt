-- How an open swap ends: one that goes forth is answered as done, unless trouble came between, or its last reply tells a failure or shuts the controller.
use Rattle.std.specs.Prelude.{length}
use Rattle.std.specs.Str.{bytes_eq}
use Rattle.std.proofs.Common.{◌≡◌, ◌≢◌, ◌⊎◌, inl, inr, ℕ, Bool, true, false, is_some, List, [], ◌∷◌, ◌++◌, Option, Some, None, Result, Ok, Err, refl, sym, ◌∙◌, ap, subst, ◌^◌, ⊎_elim}
use Rattle.std.proofs.lemmas.Bool.{cases_Bool}
use Rattle.std.proofs.lemmas.Option.{same_Some}
use Rattle.std.proofs.lemmas.Slice.Eq.{bytes_eq-Decides}
use Rattle.lab_base.specs.Lists.{AllDiffer, Has}
use Rattle.lab_base.specs.declared.what.What.{What}
use Rattle.plant.specs.Events.{Event}
use Rattle.plant.specs.declared.drill.Drill.{Drill}
use Rattle.virt_topo.specs.declared.mapping.Mapped.{Mapped}
use Rattle.lab_model.specs.Courses.{Trouble}
use Rattle.records_model.specs.Labs.{LabState}
use Rattle.script_text.specs.Drills.{drill_of}
use Rattle.script_text.specs.declared.command.Command.{Command}
use Rattle.script_text.specs.declared.command.Command.TheVariants as commands
use Rattle.script_text.specs.declared.reply.FailedEnd.{FailedEnd}
use Rattle.script_text.specs.declared.reply.FailedEnd.TheVariants as ends
use Rattle.script_text.specs.declared.reply.Reply.{Reply}
use Rattle.script_text.specs.declared.reply.Reply.TheVariants as replies
use Rattle.swap_txn.specs.Troubles.{what_of}
use Rattle.swap_turns.specs.Finishing.{Finishes, Onward, along as on_along, back as on_back}
use Rattle.swap_turns.specs.Legs.{Forth, Leg, Undo}
use Rattle.swap_turns.specs.Running.{OpenSwap as RunningSwap}
use Rattle.swap_turns.specs.Swaps.{Moves, Swap as SwapOf}
use Rattle.swap_turns.specs.Turning.{Outcome, More, TurnsBack, Ended, Stuck, Unwritten, Stopped as Halted, TurnSteps}
use Rattle.lab_tasks.specs.Tasks.{Append, BeginOnly, Finish, Recover, Swap, Task, Tell, Turn}
use Rattle.lab_judge.specs.Judge.{is_unjudged}
use Rattle.lab_tasks.specs.OpenNames.{is_among, name_of}
use Rattle.lab_core.specs.Commands.{LabStep}
use Rattle.lab_core.specs.LabSteps.{Does, DoesBy, EndsSwap, IsDoneBy, JudgedBeside, StepOf, Turns, begun_at, does, done_reply, end_reply, no_memory, turn_reply, turned_on, undone_end}
use Rattle.lab_core.specs.Moments.{IsLabAt}
use Rattle.lab_core.specs.Sessions.{After, Closed, Open, OpenSwap, Session, Setting, Terms, name_in, names_of, open_at}
use Rattle.lab_core.specs.Tells.{IsTurnOf, busy_of, opens_of}
use Rattle.lab_core.proofs.ListSteps.{plain_step, unjudged_leave}
use Rattle.lab_core.proofs.OpenLaws.{IsNext, at_turned, at_without, does_next}
use Rattle.lab_core.proofs.SameSwaps.{at_front, has_at}
use Rattle.lab_top.specs.Pieces.{AreHandedOn, AreOn, ArePieces, Begun, Finds, IsPiece, Leads, is_closed, may_shut, session_after, steps_of}
use Rattle.complete.specs.Ends.{FailsOrShuts, MetTrouble}
use Rattle.complete.proofs.Continued.{GoesOn, told_open}
use Rattle.complete.proofs.JudgedUncut.{IsJudgedUncut, judged_uncut}
use Rattle.complete.proofs.RunCourses.{GoingAt, StandOnce, piece_goes, replied, sane_set, still_differ}
use Rattle.complete.proofs.Turnings.{IsFinishOfIt, IsTurnOfIt, KeepsLeg, busy_in, by_any, finish_accepted, first_at, found_in, in_its_place, its_place, session_is, step_by, told_is, turn_accepted}

-- WHAT THE END IS ANSWERED, of a swap that went forth: done; or that it failed
abbrev IsEnd : List ℕ → Option Mapped → Option Reply → Type 0
IsEnd exp new reply = (reply ≡ Some (done_reply exp new)) ⊎ ((end : FailedEnd) × (what : What) × (reply ≡ Some (replies.Failed exp end what)))

-- BY ITS OUTCOME, where the controller stays open
end_told : (p : SwapOf) (exp : List ℕ) → p.name ≡ exp → (leg : Leg) → (leg ≡ Forth) ⊎ ((why : Trouble) × (leg ≡ Undo why)) → IsEnd exp p.new (end_reply p (Ended leg))
end_told p exp named leg (inl is) = subst (λ (l : Leg). IsEnd exp p.new (end_reply p (Ended l))) (sym is) (inl (ap (λ n. Some (done_reply n p.new)) named))
end_told p exp named leg (inr back) =
    subst (λ (l : Leg). IsEnd exp p.new (end_reply p (Ended l))) (sym back.1) (inr (undone_end p.old, what_of back.0, ap (λ n. Some (replies.Failed n (undone_end p.old) (what_of back.0))) named))

stuck_told : (p : SwapOf) (exp : List ℕ) → p.name ≡ exp → (why : Trouble) → IsEnd exp p.new (end_reply p (Stuck why))
stuck_told p exp named why = inr (ends.Stuck, what_of why, ap (λ n. Some (replies.Failed n ends.Stuck (what_of why))) named)

-- THE TURN OR `finish` THAT ENDS IT, with these open swaps
module _ (exp : List ℕ) (set : Setting) (s : LabState) (opens : List OpenSwap) (differ : AllDiffer (names_of opens)) (own : List Event) (after : After) (to : List OpenSwap) (open_now : after.session ≡ Open to) (q : OpenSwap)
    (at : open_at exp opens ≡ Some q) (forth : q.running.leg ≡ Forth) (set_in : is_some s.lab ≡ true) (moves : Moves q.running.swap s) (gone : open_at exp to ≡ None) where
  abbrev Answers : OpenSwap → Type 0
  Answers o = IsEnd exp o.running.swap.new after.reply

  still : {X : Type 0} (o : OpenSwap) → open_at exp to ≡ Some o → X
  still o is = let both : None ≡ Some o = sym gone ∙ is in absurd (cc both)

  -- the leg at the last turn of a `finish`
  at_end : (o : RunningSwap) (steps : List Event) (here : RunningSwap) → o.leg ≡ Forth → Onward s o steps here → (here.leg ≡ Forth) ⊎ ((why : Trouble) × (here.leg ≡ Undo why))
  at_end o steps here forth (on_along is) = inl (ap (λ (r : RunningSwap). r.leg) is ∙ forth)
  at_end o steps here forth (on_back why front course was has cut is are) = inr (why, ap (λ (r : RunningSwap). r.leg) is)

  turn_ends : Turns s opens exp own after → Answers q
  turn_ends d = subst Answers its (by d.outcome d.turn (told_open _ _ to d.outcome d.behind after d.answered open_now))
    where
      its : d.one.swap ≡ q
      its = same_Some d.one.swap q (sym (its_place exp set s opens differ own after to open_now d.one) ∙ at)

      legs : d.one.swap.running.leg ≡ Forth
      legs = ap (λ (x : OpenSwap). x.running.leg) its ∙ forth

      by : (outcome : Outcome) → TurnSteps s d.one.swap.running d.steps outcome after.lab → GoesOn outcome × (d.behind ≡ []) × (to ≡ d.one.front ++ (turned_on d.one.swap d.steps outcome ++ d.one.rest)) × (after.reply ≡ turn_reply d.one.swap.running.swap outcome)
          → Answers d.one.swap
      by More turn told =
          let next : OpenSwap = record d.one.swap { running = record d.one.swap.running { course = d.one.swap.running.course ++ d.steps } } in
          still next (ap (λ l. open_at exp l) told.2 ∙ in_its_place exp set s opens differ own after to open_now d.one next refl)
      by (TurnsBack why) turn told =
          let next : OpenSwap = record d.one.swap { running = record d.one.swap.running { leg = Undo why; course = [] } } in
          still next (ap (λ l. open_at exp l) told.2 ∙ in_its_place exp set s opens differ own after to open_now d.one next refl)
      by (Ended leg) turn told =
          subst (λ (m : Option Reply). IsEnd exp d.one.swap.running.swap.new m) (sym told.3) (end_told d.one.swap.running.swap exp d.one.name leg (inl (sym turn.1 ∙ legs)))
      by (Stuck why) turn told = subst (λ (m : Option Reply). IsEnd exp d.one.swap.running.swap.new m) (sym told.3) (stuck_told d.one.swap.running.swap exp d.one.name why)
      by Unwritten turn told = absurd told.0
      by Halted turn told = absurd told.0

  finish_ends : EndsSwap s opens exp own after → Answers q
  finish_ends d = subst Answers its (by d.outcome d.finishes (told_open _ _ to d.outcome d.behind after d.answered open_now))
    where
      its : d.one.swap ≡ q
      its = same_Some d.one.swap q (sym (its_place exp set s opens differ own after to open_now d.one) ∙ at)

      legs : d.one.swap.running.leg ≡ Forth
      legs = ap (λ (x : OpenSwap). x.running.leg) its ∙ forth

      by : (outcome : Outcome) → Finishes s d.one.swap.running d.steps outcome after.lab → GoesOn outcome × (d.behind ≡ []) × (to ≡ d.one.front ++ d.one.rest) × (after.reply ≡ end_reply d.one.swap.running.swap outcome) → Answers d.one.swap
      by More f told = absurd f.over
      by (TurnsBack why) f told = absurd f.over
      by (Ended leg) f told =
          let here = subst (λ (l : Leg). (l ≡ Forth) ⊎ ((why : Trouble) × (l ≡ Undo why))) f.turn.1 (at_end d.one.swap.running f.front f.at legs f.onward) in
          subst (λ (m : Option Reply). IsEnd exp d.one.swap.running.swap.new m) (sym told.3) (end_told d.one.swap.running.swap exp d.one.name leg here)
      by (Stuck why) f told = subst (λ (m : Option Reply). IsEnd exp d.one.swap.running.swap.new m) (sym told.3) (stuck_told d.one.swap.running.swap exp d.one.name why)
      by Unwritten f told = absurd told.0
      by Halted f told = absurd told.0

  turn_does : (j : Result Task Reply) → IsTurnOfIt s (is_among (names_of opens) (Some exp)) exp j → Does set s opens j own after → Answers q
  turn_does (Ok (Turn e)) is d = turn_ends (subst (λ n. Turns s opens n own after) is d)
  turn_does (Err refusal) is d =
      absurd (is set_in (found_in exp set s opens differ own after to open_now q at set_in moves) (busy_in exp set s opens differ own after to open_now q at set_in moves))
  turn_does j is d = absurd is

  finish_does : (j : Result Task Reply) → IsFinishOfIt s (is_among (names_of opens) (Some exp)) exp j → Does set s opens j own after → Answers q
  finish_does (Ok (Finish e)) is d = finish_ends (subst (λ n. EndsSwap s opens n own after) is d)
  finish_does (Err refusal) is d =
      absurd (is set_in (found_in exp set s opens differ own after to open_now q at set_in moves) (busy_in exp set s opens differ own after to open_now q at set_in moves))
  finish_does j is d = absurd is

  by_turn : (terms : Terms) → IsDoneBy (JudgedBeside terms.rule (commands.Turn exp) opens s) set s opens own after → Answers q
  by_turn terms (does j judged d) = turn_does j (subst (IsTurnOfIt s (is_among (names_of opens) (Some exp)) exp) (sym judged) (turn_accepted s (is_among (names_of opens) (Some exp)) exp)) d
  by_turn terms (no_memory wants) = absurd (cc (sym (ap (λ (x : After). x.session) wants.after_is) ∙ open_now))

  by_finish : (terms : Terms) → IsDoneBy (JudgedBeside terms.rule (commands.Finish exp) opens s) set s opens own after → Answers q
  by_finish terms (does j judged d) = finish_does j (subst (IsFinishOfIt s (is_among (names_of opens) (Some exp)) exp) (sym judged) (finish_accepted s (is_among (names_of opens) (Some exp)) exp)) d
  by_finish terms (no_memory wants) = absurd (cc (sym (ap (λ (x : After). x.session) wants.after_is) ∙ open_now))

-- ANY OTHER COMMAND leaves it open
module _ (exp : List ℕ) (set : Setting) (opens : List OpenSwap) (q : OpenSwap) (at : open_at exp opens ≡ Some q) (to : List OpenSwap) where
  as_before : to ≡ opens → open_at exp to ≡ Some q
  as_before same = ap (λ l. open_at exp l) same ∙ at

  apart : (command : Command) (e own : List ℕ) → (IsTurnOf exp command → ⊥) → IsTurnOf e command → own ≡ e → own ≢ exp
  apart command e own other turns is same = other (subst (λ n. IsTurnOf n command) (sym is ∙ same) turns)

  next_keeps : (command : Command) → (IsTurnOf exp command → ⊥) → (j : Result Task Reply) → IsJudgedUncut command j → IsNext set.devices opens j to → open_at exp to ≡ Some q
  next_keeps command other (Err refusal) turns next = as_before next
  next_keeps command other (Ok (Tell told)) turns next = as_before next
  next_keeps command other (Ok (Append entry told)) turns next = as_before next
  next_keeps command other (Ok (Swap e way)) turns next = as_before next
  next_keeps command other (Ok Recover) turns next = as_before next
  next_keeps command other (Ok (BeginOnly e way)) turns (inl same) = as_before same
  next_keeps command other (Ok (BeginOnly e way)) turns (inr (p, named, is)) = ap (λ l. open_at exp l) is ∙ at_front exp opens (begun_at p set.devices ∷ []) q at
  next_keeps command other (Ok (Turn e)) turns (one, steps, outcome, is) =
      ap (λ l. open_at exp l) is ∙ at_turned exp one.front one.rest one.swap steps outcome (apart command e (name_in one.swap) other turns one.name) ∙ ap (λ l. open_at exp l) (sym one.are) ∙ at
  next_keeps command other (Ok (Finish e)) turns (one, is) =
      ap (λ l. open_at exp l) is ∙ sym (at_without exp one.front one.rest one.swap (apart command e (name_in one.swap) other turns one.name)) ∙ ap (λ l. open_at exp l) (sym one.are) ∙ at

  -- by its lab step
  module _ (terms : Terms) (trace : List Event) (s : LabState) (opening own : List Event) (after : After) (open_now : after.session ≡ Open to) where
    done_keeps : (command : Command) → (IsTurnOf exp command → ⊥) → IsDoneBy (JudgedBeside terms.rule command opens s) set s opens own after → open_at exp to ≡ Some q
    done_keeps command other (does j judged d) =
        next_keeps command other j (judged_uncut s (is_among (names_of opens) (name_of command)) (length opens) terms.rule command j judged) (does_next after to open_now s opens own set j d)
    done_keeps command other (no_memory wants) = absurd (cc (sym (ap (λ (x : After). x.session) wants.after_is) ∙ open_now))

    by_step : (command : Command) (drill : Option Drill) → drill ≡ None → (IsTurnOf exp command → ⊥) → StepOf drill (DoesBy (JudgedBeside terms.rule command) set) terms s (Open opens) opening own after
        → open_at exp to ≡ Some q
    by_step command (Some drill) none other step = absurd (cc none)
    by_step command None none other step = done_keeps command other step.1

    plain_keeps : (command : Command) → is_unjudged command ≡ false → drill_of command ≡ None → (IsTurnOf exp command → ⊥) → LabStep terms (Some trace) set s (Open opens) command opening own after → open_at exp to ≡ Some q
    plain_keeps command plain none other step = by_step command (drill_of command) none other (plain_step terms (Some trace) set s (Open opens) command opening own after plain step)

    step_keeps : (command : Command) → drill_of command ≡ None → (IsTurnOf exp command → ⊥) → LabStep terms (Some trace) set s (Open opens) command opening own after → open_at exp to ≡ Some q
    step_keeps command none other step = by (is_unjudged command) refl
      where
        by : (b : Bool) → is_unjudged command ≡ b → open_at exp to ≡ Some q
        by true list = as_before (unjudged_leave terms (Some trace) set s (Open opens) opening own after command list to open_now step)
        by false plain = plain_keeps command plain none other step

-- whether the command turns the swap of that experiment
turns_or_not : (exp : List ℕ) (command : Command) → IsTurnOf exp command ⊎ (IsTurnOf exp command → ⊥)
turns_or_not exp (commands.Turn name) = elim (cases_Bool (bytes_eq name exp)) [
  | inl yes' ↦ inl (inl (ap commands.Turn ((bytes_eq-Decides name exp).0 yes')))
  | inr no' ↦ inr (⊎_elim (λ is. not_named no' (cc is)) (λ is. cc is))
]
  where
    not_named : bytes_eq name exp ≡ false → name ≡ exp → ⊥
    not_named no' same = cc (sym no' ∙ (bytes_eq-Decides name exp).1 same)
turns_or_not exp (commands.Finish name) = elim (cases_Bool (bytes_eq name exp)) [
  | inl yes' ↦ inl (inr (ap commands.Finish ((bytes_eq-Decides name exp).0 yes')))
  | inr no' ↦ inr (⊎_elim (λ is. cc is) (λ is. not_named no' (cc is)))
]
  where
    not_named : bytes_eq name exp ≡ false → name ≡ exp → ⊥
    not_named no' same = cc (sym no' ∙ (bytes_eq-Decides name exp).1 same)
turns_or_not exp command = inr (⊎_elim (λ is. cc is) (λ is. cc is))

-- ONE PIECE, over any trace
module _ (terms : Terms) (once : StandOnce) (made : List Begun) (trace : List Event) (b : Begun) (is : IsPiece terms trace b.piece) (differ : AllDiffer (busy_of b.piece.from)) (here : GoingAt made trace b.piece.from) (exp : List ℕ) (o : OpenSwap)
    (was_at : open_at exp (opens_of b.piece.from) ≡ Some o) where
  -- that leaves it open
  pub next_keeps_leg : (q : OpenSwap) → open_at exp (opens_of b.piece.to) ≡ Some q → KeepsLeg exp o.running b.piece.reply q.running
  next_keeps_leg q is_at = by b.piece.to refl
    where
      drilled : (drill : Drill) → Finds (Some drill) b.piece.from trace b.piece → (to : List OpenSwap) → b.piece.to ≡ Open to → KeepsLeg exp o.running b.piece.reply q.running
      drilled drill finds to open_now =
          let r = replied terms once made trace b is differ here to open_now b.piece.reply refl in
          let same : q ≡ o = same_Some q o (sym is_at ∙ ap (λ x. open_at exp (opens_of x)) (finds.2 (ap is_some r.1)) ∙ was_at) in
          record { same = ap (λ (x : OpenSwap). x.running.swap) same; leg = inl (ap (λ (x : OpenSwap). x.running.leg) same) }

      by_drill : (to : List OpenSwap) → b.piece.to ≡ Open to → (drill : Option Drill) → drill_of b.piece.command ≡ drill → KeepsLeg exp o.running b.piece.reply q.running
      by_drill to open_now None none =
          (by_any terms once made trace b is differ here none (is.leads none (ap is_closed open_now)) to open_now exp o q was_at (subst (λ x. open_at exp (opens_of x) ≡ Some q) open_now is_at)).1
      by_drill to open_now (Some drill) it = drilled drill (subst (λ (d : Option Drill). Finds d b.piece.from trace b.piece) it is.finds) to open_now

      by : (to : Session) → b.piece.to ≡ to → KeepsLeg exp o.running b.piece.reply q.running
      by Closed shut = let none : None ≡ Some q = subst (λ x. open_at exp (opens_of x) ≡ Some q) shut is_at in absurd (cc none)
      by (Open to) open_now = by_drill to open_now (drill_of b.piece.command) refl

  -- that ends it
  module _ (forth : o.running.leg ≡ Forth) (gone : open_at exp (opens_of b.piece.to) ≡ None) where
    abbrev IsTold : Type 0
    IsTold = (b.piece.reply ≡ Some (done_reply exp o.running.swap.new)) ⊎ FailsOrShuts exp b.piece.reply

    as_end : IsEnd exp o.running.swap.new b.piece.reply → IsTold
    as_end (inl is_done) = inl is_done
    as_end (inr fails) = inr (inl fails)

    led : (none : drill_of b.piece.command ≡ None) → (to : List OpenSwap) → b.piece.to ≡ Open to → (opens : List OpenSwap) → b.piece.from ≡ Open opens → IsTold
    led none to open_now opens from_is = by (turns_or_not exp b.piece.command)
      where
        l : Leads terms trace b.piece
        l = is.leads none (ap is_closed open_now)

        set : Setting
        set = record { length = l.steps.length; limit = 2 ^ 32; devices = b.piece.faults.devices }

        all : List Event
        all = b.piece.own ++ l.steps.behind

        after : After
        after = record { reply = l.steps.told; lab = l.last; session = l.steps.session }

        session : l.steps.session ≡ Open to
        session = session_is terms once made trace b is differ here none l to open_now

        told : l.steps.told ≡ b.piece.reply
        told = told_is terms once made trace b is differ here none l to open_now

        at : open_at exp opens ≡ Some o
        at = subst (λ x. open_at exp (opens_of x) ≡ Some o) from_is was_at

        has : Has (opens_of b.piece.from) o
        has = (has_at exp (opens_of b.piece.from) o was_at).0

        first : IsLabAt trace l.first
        first = first_at terms once made trace b is differ here none l to open_now o has

        ended : open_at exp to ≡ None
        ended = subst (λ x. open_at exp (opens_of x) ≡ None) open_now gone

        differ_here : AllDiffer (names_of opens)
        differ_here = subst (λ x. AllDiffer (busy_of x)) from_is differ

        set_in : is_some l.first.lab ≡ true
        set_in = (sane_set terms once made trace b is differ here l.first first o has).1

        moves : Moves o.running.swap l.first
        moves = (here l.first first o has).course.moves

        step : (command : Command) → b.piece.command ≡ command → LabStep terms (Some trace) set l.first (Open opens) command b.piece.opening all after
        step command asks = step_by terms once made trace b is differ here none l to open_now (Open opens) command from_is asks

        answered : IsEnd exp o.running.swap.new l.steps.told → IsTold
        answered e = as_end (subst (λ (m : Option Reply). IsEnd exp o.running.swap.new m) told e)

        by : IsTurnOf exp b.piece.command ⊎ (IsTurnOf exp b.piece.command → ⊥) → IsTold
        by (inl (inl turn)) = answered (by_turn exp set l.first opens differ_here all after to session o at forth set_in moves ended terms (step (commands.Turn exp) turn).1)
        by (inl (inr finish)) = answered (by_finish exp set l.first opens differ_here all after to session o at forth set_in moves ended terms (step (commands.Finish exp) finish).1)
        by (inr other) =
            let both : None ≡ Some o = sym ended ∙ step_keeps exp set opens o at to terms trace l.first b.piece.opening all after session b.piece.command none other (step b.piece.command refl) in
            absurd (cc both)

    shut_drill : (drill : Drill) → Finds (Some drill) b.piece.from trace b.piece → (to : Session) → b.piece.to ≡ to → IsTold
    shut_drill drill finds to to_is = by b.piece.reply refl
      where
        by : (reply : Option Reply) → b.piece.reply ≡ reply → IsTold
        by None none = inr (inr (ap may_shut none))
        by (Some reply) some =
            let both : None ≡ Some o = sym gone ∙ ap (λ x. open_at exp (opens_of x)) (finds.2 (ap is_some some)) ∙ was_at in
            absurd (cc both)

    pub ends_told : IsTold
    ends_told = by (drill_of b.piece.command) refl
      where
        from_open : (none : drill_of b.piece.command ≡ None) → (to : List OpenSwap) → b.piece.to ≡ Open to → (from : Session) → b.piece.from ≡ from → IsTold
        from_open none to open_now (Open opens) from_is = led none to open_now opens from_is
        from_open none to open_now Closed from_is = let both : None ≡ Some o = subst (λ x. open_at exp (opens_of x) ≡ Some o) from_is was_at in absurd (cc both)

        to_any : (none : drill_of b.piece.command ≡ None) → (to : Session) → b.piece.to ≡ to → IsTold
        to_any none Closed shut = inr (inr (is.shuts none (ap is_closed shut)))
        to_any none (Open to) open_now = from_open none to open_now b.piece.from refl

        by : (drill : Option Drill) → drill_of b.piece.command ≡ drill → IsTold
        by None none = to_any none b.piece.to refl
        by (Some drill) it = shut_drill drill (subst (λ (d : Option Drill). Finds d b.piece.from trace b.piece) it is.finds) b.piece.to refl

-- WHILE IT IS OPEN it goes forth, unless one of them met trouble
pub record IsOnForth (exp : List ℕ) (o : OpenSwap) (session : Session) (middle : List Begun) : Type 0 where
  pub swap : OpenSwap
  pub is_open : open_at exp (opens_of session) ≡ Some swap
  pub same : swap.running.swap ≡ o.running.swap
  pub leg : (swap.running.leg ≡ Forth) ⊎ MetTrouble exp middle

-- it stays open
still_open : (terms : Terms) (once : StandOnce) (exp : List ℕ) (made middle after : List Begun) (trace : List Event) (session : Session) → ArePieces terms trace (middle ++ after) → AreHandedOn session (middle ++ after) → AllDiffer (busy_of session) → GoingAt made trace session
    → (q : OpenSwap) → open_at exp (opens_of session) ≡ Some q → AreOn exp middle → (x : OpenSwap) × (open_at exp (opens_of (session_after session middle)) ≡ Some x) × (x.running.swap ≡ q.running.swap)
still_open terms once exp made [] after trace session are handed differ here q at on = (q, at, refl)
still_open terms once exp made (c ∷ middle) after trace session are handed differ here q at on =
    next (λ y is_at. still_open terms once exp (made ++ c ∷ []) middle after (trace ++ steps_of c.piece) c.piece.to are.1 handed.1 (still_differ terms once made trace c are.0 differ_now going) (piece_goes terms once made trace c are.0 differ_now going) y is_at on.1)
    (open_at exp (opens_of c.piece.to)) refl on.0
  where
    differ_now : AllDiffer (busy_of c.piece.from)
    differ_now = subst (λ (x : Session). AllDiffer (busy_of x)) (sym handed.0) differ

    going : GoingAt made trace c.piece.from
    going = subst (λ (x : Session). GoingAt made trace x) (sym handed.0) here

    next : ((y : OpenSwap) → open_at exp (opens_of c.piece.to) ≡ Some y → (x : OpenSwap) × (open_at exp (opens_of (session_after c.piece.to middle)) ≡ Some x) × (x.running.swap ≡ y.running.swap))
        → (y : Option OpenSwap) → open_at exp (opens_of c.piece.to) ≡ y → is_some y ≡ true → (x : OpenSwap) × (open_at exp (opens_of (session_after c.piece.to middle)) ≡ Some x) × (x.running.swap ≡ q.running.swap)
    next rest None is_at some = absurd (cc some)
    next rest (Some y) is_at some =
        let kept = next_keeps_leg terms once made trace c are.0 differ_now going exp q (subst (λ x. open_at exp (opens_of x) ≡ Some q) (sym handed.0) at) y is_at in
        let r = rest y is_at in
        (r.0, r.1, r.2 ∙ kept.same)

-- it goes forth, by one command, and those after it
module _ (terms : Terms) (once : StandOnce) (exp : List ℕ) (made : List Begun) (trace : List Event) (b : Begun) (is : IsPiece terms trace b.piece) (differ : AllDiffer (busy_of b.piece.from)) (here : GoingAt made trace b.piece.from) (middle : List Begun) (o : OpenSwap)
    (was_at : open_at exp (opens_of b.piece.from) ≡ Some o) (forth : o.running.leg ≡ Forth)
    (goes : (q : OpenSwap) → open_at exp (opens_of b.piece.to) ≡ Some q → q.running.leg ≡ Forth → IsOnForth exp q (session_after b.piece.to middle) middle)
    (stays : (q : OpenSwap) → open_at exp (opens_of b.piece.to) ≡ Some q → (x : OpenSwap) × (open_at exp (opens_of (session_after b.piece.to middle)) ≡ Some x) × (x.running.swap ≡ q.running.swap)) where
  forth_more : is_some (open_at exp (opens_of b.piece.to)) ≡ true → IsOnForth exp o (session_after b.piece.to middle) (b ∷ middle)
  forth_more on = by (open_at exp (opens_of b.piece.to)) refl on
    where
      by_leg : (q : OpenSwap) → open_at exp (opens_of b.piece.to) ≡ Some q → q.running.swap ≡ o.running.swap → (q.running.leg ≡ o.running.leg) ⊎ ((what : What) × (b.piece.reply ≡ Some (replies.Trouble exp what)))
          → IsOnForth exp o (session_after b.piece.to middle) (b ∷ middle)
      by_leg q is_at same (inl leg) =
          let rest = goes q is_at (leg ∙ forth) in
          record { swap = rest.swap; is_open = rest.is_open; same = rest.same ∙ same; leg = ⊎_elim (λ goes. inl goes) (λ met. inr (inr met)) rest.leg }
      by_leg q is_at same (inr met) = let rest = stays q is_at in record { swap = rest.0; is_open = rest.1; same = rest.2 ∙ same; leg = inr (inl met) }

      by : (q : Option OpenSwap) → open_at exp (opens_of b.piece.to) ≡ q → is_some q ≡ true → IsOnForth exp o (session_after b.piece.to middle) (b ∷ middle)
      by None is_at some = absurd (cc some)
      by (Some q) is_at some = let kept = next_keeps_leg terms once made trace b is differ here exp o was_at q is_at in by_leg q is_at kept.same kept.leg

pub goes_forth : (terms : Terms) (once : StandOnce) (exp : List ℕ) (made middle after : List Begun) (trace : List Event) (session : Session) → ArePieces terms trace (middle ++ after) → AreHandedOn session (middle ++ after) → AllDiffer (busy_of session) → GoingAt made trace session
    → (o : OpenSwap) → open_at exp (opens_of session) ≡ Some o → o.running.leg ≡ Forth → AreOn exp middle → IsOnForth exp o (session_after session middle) middle
goes_forth terms once exp made [] after trace session are handed differ here o was_at forth on = record { swap = o; is_open = was_at; same = refl; leg = inl forth }
goes_forth terms once exp made (b ∷ middle) after trace session are handed differ here o was_at forth on =
    let differ_here = subst (λ (x : Session). AllDiffer (busy_of x)) (sym handed.0) differ in
    let here_now = subst (λ (x : Session). GoingAt made trace x) (sym handed.0) here in
    let differ_next = still_differ terms once made trace b are.0 differ_here here_now in
    let going_next = piece_goes terms once made trace b are.0 differ_here here_now in
    forth_more terms once exp made trace b are.0 differ_here here_now middle o (subst (λ x. open_at exp (opens_of x) ≡ Some o) (sym handed.0) was_at) forth
    (λ q is_at leg. goes_forth terms once exp (made ++ b ∷ []) middle after (trace ++ steps_of b.piece) b.piece.to are.1 handed.1 differ_next going_next q is_at leg on.1)
    (λ q is_at. still_open terms once exp (made ++ b ∷ []) middle after (trace ++ steps_of b.piece) b.piece.to are.1 handed.1 differ_next going_next q is_at on.1) on.0
