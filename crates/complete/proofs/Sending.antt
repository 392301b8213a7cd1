-- How many device commands a course, a turn, a swap and a settling send at most.
use Rattle.std.proofs.Common.{◌≡◌, inl, inr, ℕ, ◌+◌, ◌<◌, ◌≤◌, Bool, true, false, cond, eqb, List, [], ◌∷◌, ◌++◌, length, Option, Some, None, IsSome, Result, Ok, Err, refl, sym, ◌∙◌, ap, subst, arith}
use Rattle.std.proofs.lemmas.Bool.{eqb-false}
use Rattle.lab_base.specs.declared.boot.Boot.{Boot}
use Rattle.lab_base.specs.declared.boot.Boot.TheVariants.{Off, Shutdown, Booting, TbSetup, IsUp}
use Rattle.phys_lab.specs.Labs.{Lab}
use Rattle.plant.specs.Events.{Event, Wrote, Synced, Cut as CutTo, Missed, Did, Restarted, Unread}
use Rattle.plant.specs.declared.device.Answer.{Answer}
use Rattle.plant.specs.declared.device.Answer.TheVariants.{Done, State}
use Rattle.plant.specs.declared.device.DeviceOp.{DeviceOp}
use Rattle.plant.specs.declared.device.Fault.{Fault}
use Rattle.plant.specs.declared.device.Fault.TheVariants.{Failed, Stopped}
use Rattle.plant.specs.declared.step.Side.{Side}
use Rattle.virt_topo.specs.declared.experiment.Experiment.{Experiment}
use Rattle.virt_topo.specs.declared.mapping.Mapped.{Mapped}
use Rattle.journal_rec.specs.declared.record.Record.{Record}
use Rattle.journal_model.specs.Appends.{All, added}
use Rattle.lab_model.specs.Courses.{Plan, Left, Watch, Course, Going, Cut, Halted, Trouble, Late, lawful, judged, next, answered, nothing_left, Goes, whole}
use Rattle.lab_model.specs.Leavings.{Sent}
use Rattle.lab_model.specs.OnCourse.{acknowledged}
use Rattle.records_model.specs.Labs.{LabState, Move, lab_in, moved_of, moved_in}
use Rattle.records_model.proofs.Finding.{none_some}
use Rattle.records_model.proofs.LabLaws.{in_state-some}
use Rattle.swap_turns.specs.Beginning.{settling}
use Rattle.swap_turns.specs.Courses.{IsSent, IsCut, IsHalted, before, within}
use Rattle.swap_turns.specs.Finishing.{Finishes, Onward, along, back}
use Rattle.swap_turns.specs.Legs.{Leg, Forth, HasLeg, Undo, Settling as ToSettle, commits, last_move_by, plan_of}
use Rattle.swap_turns.specs.Pieces.{has_command}
use Rattle.swap_turns.specs.Records.{IsWhole, IsBroken, missed, nothing}
use Rattle.swap_turns.specs.Running.{OpenSwap}
use Rattle.swap_turns.specs.Settling.{BreaksOff, Settles, SettlesOne}
use Rattle.swap_turns.specs.Swaps.{Swap}
use Rattle.swap_turns.specs.Turning.{Outcome, More, TurnsBack, Ended, Stuck, Unwritten, Stopped as IsStopped, IsOneCommand, TurnSteps, plan_in}
use Rattle.swap_turns.specs.Weights.{commands_left}
use Rattle.swap_turns.proofs.Endings.{append_quiet}
use Rattle.complete.specs.Bounds.{commands_in, most_after, most_back, most_forth, most_from, most_settled}
use Rattle.complete.proofs.PlanSizes.{plan_size}

-- THE COMMANDS among steps one after another
pub commands_both : (xs ys : List Event) → commands_in (xs ++ ys) ≡ commands_in xs + commands_in ys
commands_both [] ys = omega arith
commands_both (Did op applied answer ∷ xs) ys = omega (arith, commands_both xs ys)
commands_both (Wrote side at bytes ∷ xs) ys = commands_both xs ys
commands_both (Synced side ∷ xs) ys = commands_both xs ys
commands_both (CutTo side size ∷ xs) ys = commands_both xs ys
commands_both (Missed side ∷ xs) ys = commands_both xs ys
commands_both (Restarted a b ∷ xs) ys = commands_both xs ys
commands_both (Unread device ∷ xs) ys = commands_both xs ys

pub calm_none : (steps : List Event) → has_command steps ≡ false → commands_in steps ≡ 0
calm_none [] calm = refl
calm_none (Did op applied answer ∷ steps) calm = absurd (cc calm)
calm_none (Wrote side at bytes ∷ steps) calm = calm_none steps calm
calm_none (Synced side ∷ steps) calm = calm_none steps calm
calm_none (CutTo side size ∷ steps) calm = calm_none steps calm
calm_none (Missed side ∷ steps) calm = calm_none steps calm
calm_none (Restarted a b ∷ steps) calm = calm_none steps calm
calm_none (Unread device ∷ steps) calm = calm_none steps calm

sent_length : (sent : Sent) → commands_in (acknowledged sent) ≡ length sent
sent_length [] = refl
sent_length (c ∷ sent) = omega (arith, sent_length sent)

-- AN ANSWER leaves a course less than it had, or ends it; a watched node was polled less than 64 times
abbrev IsFew : Option Watch → Type 0
IsFew None = Unit {0}
IsFew (Some w) = w.polls < 64

abbrev Less : ℕ → Course → Type 0
Less n (Going after) = IsFew after.watch × (commands_left after + 1 ≤ n)
Less n (Cut trouble) = Unit {0}
Less n Halted = Unit {0}

less_if : (n : ℕ) (b : Bool) (c d : Course) → Less n c → (b ≡ false → Less n d) → Less n (cond b c d)
less_if n true c d x y = x
less_if n false c d x y = y refl

polled : (w : Watch) (state : Boot) (boot : List (List ℕ)) → w.polls < 64
    → Less (commands_left (record { todo = []; boot = boot; watch = Some w })) (cond (eqb (w.polls + 1) 64) (Cut (Late w.node)) (Going (record { todo = []; boot = boot; watch = Some (record { node = w.node; state = state; polls = w.polls + 1 }) })))
polled w state boot few = less_if _ (eqb (w.polls + 1) 64) _ _ tt (λ other. let apart = eqb-false (w.polls + 1) 64 other in (omega (arith, few, apart), omega (arith, few, apart)))

judged_less : (w : Watch) (state : Boot) (boot : List (List ℕ)) → w.polls < 64 → Less (commands_left (record { todo = []; boot = boot; watch = Some w })) (judged w state boot)
judged_less w Off boot few = polled w Off boot few
judged_less w Shutdown boot few = polled w Shutdown boot few
judged_less w Booting boot few = polled w Booting boot few
judged_less w TbSetup boot few = polled w TbSetup boot few
judged_less w IsUp boot few = (tt, omega (arith, few))

answer_less : (todo : List DeviceOp) (watch : Option Watch) (boot : List (List ℕ)) (op : DeviceOp) (answer : Result Answer Fault) → IsFew watch → next todo watch boot ≡ Some op
    → Less (commands_left (record { todo = todo; boot = boot; watch = watch })) (answered todo watch boot answer)
answer_less (o ∷ todo) watch boot op (Ok answer) few comes = (few, omega arith)
answer_less (o ∷ todo) watch boot op (Err Failed) few comes = tt
answer_less (o ∷ todo) watch boot op (Err Stopped) few comes = tt
answer_less [] (Some w) boot op (Ok (State state)) few comes = less_if _ (lawful w.state state) (judged w state boot) _ (judged_less w state boot few) (λ b. tt)
answer_less [] (Some w) boot op (Ok Done) few comes = tt
answer_less [] (Some w) boot op (Err Failed) few comes = tt
answer_less [] (Some w) boot op (Err Stopped) few comes = tt
answer_less [] None (node ∷ boot) op (Ok answer) few comes = (omega arith, omega arith)
answer_less [] None (node ∷ boot) op (Err Failed) few comes = tt
answer_less [] None (node ∷ boot) op (Err Stopped) few comes = tt
answer_less [] None [] op answer few comes = absurd (cc comes)

one_left : (todo : List DeviceOp) (watch : Option Watch) (boot : List (List ℕ)) (op : DeviceOp) → IsFew watch → next todo watch boot ≡ Some op → 1 ≤ commands_left (record { todo = todo; boot = boot; watch = watch })
one_left (o ∷ todo) watch boot op few comes = omega arith
one_left [] (Some w) boot op few comes = omega (arith, few)
one_left [] None (node ∷ boot) op few comes = omega arith
one_left [] None [] op few comes = absurd (cc comes)

-- so a course of that many commands had that many left
goes_less : (sent : Sent) (course : Course) (n : ℕ) (mid : Left) → Less n course → Goes sent course (Going mid) → IsFew mid.watch × (length sent + commands_left mid + 1 ≤ n)
goes_less [] course n mid less goes = let x = subst (λ (c : Course). Less n c) goes less in (x.0, omega (arith, x.1))
goes_less (c ∷ sent) (Going left) n mid less goes =
    let r = goes_less sent (answered left.todo left.watch left.boot c.1) (commands_left left) mid (answer_less left.todo left.watch left.boot c.0 c.1 less.0 goes.0) goes.1 in
    (r.0, omega (arith, r.1, less.1))
goes_less (c ∷ sent) (Cut trouble) n mid less goes = absurd goes
goes_less (c ∷ sent) Halted n mid less goes = absurd goes

module _ (plan : Plan) where
  abbrev size : ℕ
  size = commands_left (whole plan)

  sent_both : (left : Left) (steps : List Event) → IsSent plan left steps → IsFew left.watch × (commands_in steps + commands_left left ≤ size)
  sent_both left steps sent =
      let r = goes_less sent.sent (Going (whole plan)) (size + 1) left (tt, omega arith) sent.goes in
      (r.0, omega (arith, r.1, ap commands_in sent.steps_are, sent_length sent.sent))

  sent_few : (left : Left) (steps : List Event) → IsSent plan left steps → commands_in steps ≤ size
  sent_few left steps sent = omega (arith, (sent_both left steps sent).1)

  one_more : (left : Left) (front : List Event) (op : DeviceOp) (applied : Bool) (answer : Result Answer Fault) (steps : List Event) → IsSent plan left front → next left.todo left.watch left.boot ≡ Some op
      → steps ≡ front ++ Did op applied answer ∷ [] → commands_in steps ≤ size
  one_more left front op applied answer steps sent comes is =
      let both = sent_both left front sent in
      omega (arith, both.1, one_left left.todo left.watch left.boot op both.0 comes, ap commands_in is, commands_both front (Did op applied answer ∷ []))

  cut_few : (trouble : Trouble) (steps : List Event) → IsCut plan trouble steps → commands_in steps ≤ size
  cut_few trouble steps cut = one_more cut.left cut.front cut.op cut.applied cut.answer steps cut.sent cut.comes cut.steps_are

  halted_few : (steps : List Event) → IsHalted plan steps → commands_in steps ≤ size
  halted_few steps (before left sent) = sent_few left steps sent
  halted_few steps (within front left op applied sent comes is) = one_more left front op applied (Err Stopped) steps sent comes is

-- A RECORD has no device command
pub whole_none : (s : LabState) (r : Record) (move : Move) (steps : List Event) (after : LabState) → IsWhole s r move steps after → commands_in steps ≡ 0
whole_none s r move steps after is = calm_none steps (ap has_command is.steps_are ∙ (append_quiet is.side is.gate r All).0)

pub broken_none : (behind : Side → List Event) → ((side : Side) → commands_in (behind side) ≡ 0) → (s : LabState) (r : Record) (move : Move) (steps : List Event) (after : LabState) → IsBroken behind s r move steps after → commands_in steps ≡ 0
broken_none behind none s r move steps after is =
    omega (arith, ap commands_in is.steps_are, commands_both (added is.side is.gate r is.run) (behind is.side), calm_none (added is.side is.gate r is.run) (append_quiet is.side is.gate r is.run).0, none is.side)

-- A TURN: the course with its command
module _ (s : LabState) where
  turn_few : (o : OpenSwap) (steps : List Event) (outcome : Outcome) (after : LabState) → TurnSteps s o steps outcome after → commands_in (o.course ++ steps) ≤ commands_left (whole (plan_in s o))
  turn_few o steps More after turn = sent_few (plan_in s o) turn.1.0 (o.course ++ steps) turn.1.1
  turn_few o steps (TurnsBack why) after turn = cut_few (plan_in s o) why (o.course ++ steps) turn.1
  turn_few o steps (Ended leg) after turn = omega (arith, commands_both o.course steps, sent_few (plan_in s o) nothing_left o.course turn.0.0, whole_none s _ _ steps after turn.0.1)
  turn_few o steps (Stuck trouble) after turn = cut_few (plan_in s o) trouble (o.course ++ steps) turn.1
  turn_few o steps Unwritten after turn = omega (arith, commands_both o.course steps, sent_few (plan_in s o) nothing_left o.course turn.0, broken_none missed (λ side. refl) s _ _ steps after turn.1)
  turn_few o steps IsStopped after (inl turn) = halted_few (plan_in s o) (o.course ++ steps) turn.0
  turn_few o steps IsStopped after (inr turn) = omega (arith, commands_both o.course steps, sent_few (plan_in s o) nothing_left o.course turn.0, broken_none nothing (λ side. refl) s _ _ steps after turn.1)

  leg_few : (p : Swap) (leg : Leg) → commands_left (whole (plan_of p (lab_in s.lab) leg)) ≤ most_from (lab_in s.lab) p leg
  leg_few p Forth = omega (arith, plan_size (lab_in s.lab) p.old p.new true)
  leg_few p (Undo why) = plan_size (lab_in s.lab) p.old p.new false
  leg_few p ToSettle = plan_size (lab_in s.lab) p.old p.new (commits p ToSettle)

  -- the way forth, and the undo
  forth_few : (p : Swap) (leg : Leg) → leg ≡ Forth → commands_left (whole (plan_of p (lab_in s.lab) leg)) ≤ most_forth (lab_in s.lab) p.old p.new
  forth_few p leg is = subst (λ (l : Leg). commands_left (whole (plan_of p (lab_in s.lab) l)) ≤ most_forth (lab_in s.lab) p.old p.new) (sym is) (plan_size (lab_in s.lab) p.old p.new true)

  after_is : (lab : Lab) (old new : Option Mapped) → IsSome new → most_after lab old new ≡ most_back lab old new
  after_is lab old None some = absurd (cc some)
  after_is lab old (Some m) some = refl

  from_forth : (p : Swap) (leg : Leg) → leg ≡ Forth → most_from (lab_in s.lab) p leg ≡ most_forth (lab_in s.lab) p.old p.new + most_after (lab_in s.lab) p.old p.new
  from_forth p leg is = ap (λ (l : Leg). most_from (lab_in s.lab) p l) is

  -- a turn back: what was sent with it on the way forth, and what the undo has
  pub back_few : (o : OpenSwap) (steps : List Event) (why : Trouble) → IsOneCommand steps → o.leg ≡ Forth → HasLeg o.swap (Undo why) → IsCut (plan_in s o) why (o.course ++ steps)
      → 1 + (commands_in o.course + most_back (lab_in s.lab) o.swap.old o.swap.new) ≤ most_from (lab_in s.lab) o.swap o.leg
  back_few o steps why one forth has cut =
      omega (
        arith,
        cut_few (plan_in s o) why (o.course ++ steps) cut,
        forth_few o.swap o.leg forth,
        from_forth o.swap o.leg forth,
        after_is (lab_in s.lab) o.swap.old o.swap.new has,
        commands_both o.course steps,
        ap commands_in one.is,
      )

  pub open_few : (o : OpenSwap) (steps : List Event) (outcome : Outcome) (after : LabState) → TurnSteps s o steps outcome after → commands_in o.course + commands_in steps ≤ most_from (lab_in s.lab) o.swap o.leg
  open_few o steps outcome after turn = omega (arith, commands_both o.course steps, turn_few o steps outcome after turn, leg_few o.swap o.leg)

  -- ALL TURNS up to the end
  pub finish_few : (o : OpenSwap) (steps : List Event) (outcome : Outcome) (after : LabState) → Finishes s o steps outcome after → commands_in o.course + commands_in steps ≤ most_from (lab_in s.lab) o.swap o.leg
  finish_few o steps outcome after f = by f.onward (turn_few f.at f.behind outcome after f.turn)
    where
      by : Onward s o f.front f.at → commands_in (f.at.course ++ f.behind) ≤ commands_left (whole (plan_in s f.at)) → commands_in o.course + commands_in steps ≤ most_from (lab_in s.lab) o.swap o.leg
      by (along is) few =
          let here = subst (λ (x : OpenSwap). commands_in (x.course ++ f.behind) ≤ commands_left (whole (plan_in s x))) is few in
          omega (arith, here, leg_few o.swap o.leg, ap commands_in f.steps_are, commands_both f.front f.behind, commands_both (o.course ++ f.front) f.behind, commands_both o.course f.front)
      by (back why front course was_forth has cut is front_are) few =
          let here = subst (λ (x : OpenSwap). commands_in (x.course ++ f.behind) ≤ commands_left (whole (plan_in s x))) is few in
          omega (
            arith,
            here,
            plan_size (lab_in s.lab) o.swap.old o.swap.new false,
            cut_few (plan_in s o) why (o.course ++ front) cut,
            forth_few o.swap o.leg was_forth,
            from_forth o.swap o.leg was_forth,
            after_is (lab_in s.lab) o.swap.old o.swap.new has,
            ap commands_in f.steps_are,
            commands_both f.front f.behind,
            ap commands_in front_are,
            commands_both front course,
            commands_both o.course front,
            commands_both course f.behind,
          )

-- THE LAB STAYS over a settling
lab_after : (lab : Option Lab) (es : List Experiment) (forth : Bool) (name : List ℕ) (u : LabState) → moved_of lab es (last_move_by forth name) ≡ Some u → lab_in u.lab ≡ lab_in lab
lab_after None es true name u gives = none_some u gives
lab_after None es false name u gives = none_some u gives
lab_after (Some lab) es true name u gives = let x = in_state-some lab (moved_in lab es (last_move_by true name)) u gives in sym (ap (λ (v : LabState). lab_in v.lab) x.2)
lab_after (Some lab) es false name u gives = let x = in_state-some lab (moved_in lab es (last_move_by false name)) u gives in sym (ap (λ (v : LabState). lab_in v.lab) x.2)

settled_lab : (s : LabState) (p : Swap) (outcome : Outcome) (steps : List Event) (after : LabState) → SettlesOne s p outcome steps after → lab_in after.lab ≡ lab_in s.lab
settled_lab s p (Ended leg) steps after one = lab_after s.lab s.experiments (commits one.is.at.swap leg) one.is.at.swap.name after one.is.turn.0.1.moves
settled_lab s p (Stuck trouble) steps after one = ap (λ (v : LabState). lab_in v.lab) one.is.turn.3
settled_lab s p More steps after one = absurd one.settled
settled_lab s p (TurnsBack why) steps after one = absurd one.settled
settled_lab s p Unwritten steps after one = absurd one.settled
settled_lab s p IsStopped steps after one = absurd one.settled

one_few : (s : LabState) (p : Swap) (outcome : Outcome) (steps : List Event) (after : LabState) → Finishes s (settling p) steps outcome after → commands_in steps ≤ most_from (lab_in s.lab) p ToSettle
one_few s p outcome steps after f = omega (arith, finish_few s (settling p) steps outcome after f)

pub settled_both : (s : LabState) (ps : List Swap) (outcomes : List Outcome) (steps : List Event) (after : LabState) → Settles s ps outcomes steps after → (commands_in steps ≤ most_settled (lab_in s.lab) ps) × (lab_in after.lab ≡ lab_in s.lab)
settled_both s [] [] steps after h = (omega (arith, ap commands_in h.0), ap (λ (v : LabState). lab_in v.lab) h.1)
settled_both s [] (outcome ∷ outcomes) steps after h = absurd h
settled_both s (p ∷ ps) [] steps after h = absurd h
settled_both s (p ∷ ps) (outcome ∷ outcomes) steps after h =
    let lab_is = settled_lab s p outcome h.0 h.2 h.3 in
    let rest = settled_both h.2 ps outcomes h.1 after h.4 in (
      omega (arith, one_few s p outcome h.0 h.2 h.3.is, rest.0, ap (λ (lab : Lab). most_settled lab ps) lab_is, ap commands_in h.5, commands_both h.0 h.1),
      rest.1 ∙ lab_is,
    )

pub settled_more : (lab : Lab) (ps qs : List Swap) → most_settled lab (ps ++ qs) ≡ most_settled lab ps + most_settled lab qs
settled_more lab [] qs = omega arith
settled_more lab (p ∷ ps) qs = omega (arith, settled_more lab ps qs)

pub breaks_few : (s : LabState) (ps : List Swap) (steps : List Event) (outcome : Outcome) (after : LabState) → BreaksOff s ps steps outcome after → commands_in steps ≤ most_settled (lab_in s.lab) ps
breaks_few s ps steps outcome after b =
    let past = settled_both s b.past b.outcomes b.front b.mid b.settled in
    omega (
      arith,
      past.0,
      one_few b.mid b.last outcome b.behind after b.breaks,
      ap (λ (lab : Lab). most_from lab b.last ToSettle) past.1,
      ap commands_in b.steps_are,
      commands_both b.front b.behind,
      ap (most_settled (lab_in s.lab)) b.all,
      settled_more (lab_in s.lab) b.past (b.last ∷ b.rest),
    )
