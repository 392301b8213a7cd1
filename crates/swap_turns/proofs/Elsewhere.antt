-- The steps of turns leave the parts of other experiments in the world.
use Rattle.std.proofs.Common.{◌≡◌, ◌≢◌, inl, inr, Bool, true, false, fold, List, [], ◌∷◌, ◌++◌, append_assoc, Option, Some, Result, Err, refl, sym, ap, ◌∙◌, subst}
use Rattle.lab_base.specs.Lists.{Has}
use Rattle.lab_base.proofs.Members.{Has-append, Has-map, Has-right, none_has}
use Rattle.phys_lab.specs.Labs.{Lab}
use Rattle.phys_lab.specs.Kept.{IsLab}
use Rattle.virt_topo.specs.declared.experiment.Experiment.{Experiment}
use Rattle.virt_topo.specs.declared.experiment.Phase.TheVariants.{Moving}
use Rattle.virt_topo.specs.declared.mapping.Mapped.{Mapped}
use Rattle.plant.specs.Events.{Event, Wrote, Synced, Cut as CutTo, Missed, Did, Restarted, Unread}
use Rattle.plant.specs.Worlds.{World, world_after}
use Rattle.plant.specs.declared.device.Answer.{Answer}
use Rattle.plant.specs.declared.device.DeviceOp.{DeviceOp}
use Rattle.plant.specs.declared.device.Fault.{Fault}
use Rattle.plant.specs.declared.device.Fault.TheVariants as answers
use Rattle.journal_rec.specs.declared.record.Record.{Record}
use Rattle.journal_model.specs.Appends.{All, added}
use Rattle.swap_turns.specs.Pieces.{is_command, has_command}
use Rattle.swap_turns.proofs.Endings.{append_quiet}
use Rattle.swap_turns.proofs.Quiet.{shows}
use Rattle.lab_model.specs.Courses.{Course, Going, Cut, Halted, Goes, IsCommandOf, Left, Trouble, answered, next, nothing_left, whole}
use Rattle.lab_model.specs.Holding.{Holding}
use Rattle.lab_model.specs.Leavings.{Sent, SameFor}
use Rattle.lab_model.proofs.OwnCommands.{commands_own, undo_own}
use Rattle.lab_model.proofs.OwnEvents.{same_trans}
use Rattle.lab_model.proofs.Safe.{LeftIs, answered_fine, cut_ends, halt_ends, next_fine}
use Rattle.lab_model.proofs.Steps.{others_same}
use Rattle.records_model.specs.Labs.{LabState, Move, Sane, lab_in}
use Rattle.records_model.proofs.Finding.{found_from}
use Rattle.swap_turns.specs.Courses.{IsSent, IsCut, IsHalted, before, within}
use Rattle.swap_turns.specs.Finishing.{Onward, along, back, Finishes}
use Rattle.swap_turns.specs.Legs.{commits, plan_by}
use Rattle.swap_turns.specs.Records.{IsWhole, IsBroken, missed, nothing}
use Rattle.swap_turns.specs.Running.{OpenSwap}
use Rattle.swap_turns.specs.Swaps.{Swap, Moves}
use Rattle.swap_turns.specs.Turning.{Outcome, More, TurnsBack, Ended, Stuck, Unwritten, Stopped, TurnSteps, plan_in}
use Rattle.swap_turns.proofs.Courses.{own_by}
use Rattle.swap_turns.proofs.Finishing.{onward_swap}

same_op : (a b : DeviceOp) (x y : Bool) (p q : Result Answer Fault) → Did a x p ≡ Did b y q → a ≡ b
same_op a b x y p q is = cc

-- a world is as itself, and as the one after steps that are no device commands
pub same_world : (lab : Lab) (e : Experiment) (w : World) → SameFor lab e w w
same_world lab e w = record { rows = λ row of_e. refl; nodes = λ name claims. refl }

-- THE COMMANDS OF A LEG are the experiment's own
module _ (lab : Lab) (e : Experiment) where
  abbrev pub AreOwn : List Event → Type 0
  AreOwn steps = (op : DeviceOp) (applied : Bool) (answer : Result Answer Fault) → Has steps (Did op applied answer) → IsCommandOf lab e op

  own_both : (front behind : List Event) → AreOwn front → AreOwn behind → AreOwn (front ++ behind)
  own_both front behind p q op applied answer has = elim (Has-append front behind (Did op applied answer) has) [ inl a ↦ p op applied answer a | inr b ↦ q op applied answer b ]

  pub own_behind : (front behind : List Event) → AreOwn (front ++ behind) → AreOwn behind
  own_behind front behind p op applied answer has = p op applied answer (Has-right front behind (Did op applied answer) has)

  own_one : (op : DeviceOp) (applied : Bool) (answer : Result Answer Fault) → IsCommandOf lab e op → AreOwn (Did op applied answer ∷ [])
  own_one op applied answer own other x y (inl is) = subst (λ o. IsCommandOf lab e o) (same_op op other applied x answer y is) own
  own_one op applied answer own other x y (inr none) = absurd none

  -- steps that are no device commands
  own_calm : (steps : List Event) → has_command steps ≡ false → AreOwn steps
  own_calm steps calm op applied answer has = absurd (cc (none_has is_command steps (Did op applied answer) calm has))

  sent_own : (cs : Sent) (left mid : Left) → LeftIs (IsCommandOf lab e) left → Goes cs (Going left) (Going mid) → (c : DeviceOp × Result Answer Fault) → Has cs c → IsCommandOf lab e c.0
  sent_own [] left mid fine goes c has = absurd has
  sent_own (d ∷ cs) left mid fine goes c (inl is) = subst (λ (x : DeviceOp × Result Answer Fault). IsCommandOf lab e x.0) is (next_fine (IsCommandOf lab e) left d.0 fine goes.0)
  sent_own (d ∷ cs) left mid fine goes c (inr has) = go (answered left.todo left.watch left.boot d.1) refl (λ after g f. sent_own cs after mid f g c has)
    where
      go : (course : Course) → answered left.todo left.watch left.boot d.1 ≡ course → ((after : Left) → Goes cs (Going after) (Going mid) → LeftIs (IsCommandOf lab e) after → IsCommandOf lab e c.0) → IsCommandOf lab e c.0
      go (Going after) is further = further after (subst (λ k. Goes cs k (Going mid)) is goes.1) (answered_fine (IsCommandOf lab e) left.todo left.watch left.boot d.1 fine after is)
      go (Cut what) is further = absurd (cut_ends cs what mid (subst (λ k. Goes cs k (Going mid)) is goes.1))
      go Halted is further = absurd (halt_ends cs mid (subst (λ k. Goes cs k (Going mid)) is goes.1))

  module _ (old new : Option Mapped) (commit : Bool) (moving : e.phase ≡ Moving old new) where
    plan_own : LeftIs (IsCommandOf lab e) (whole (plan_by lab old new commit))
    plan_own = by commit
      where
        by : (commit : Bool) → LeftIs (IsCommandOf lab e) (whole (plan_by lab old new commit))
        by true = commands_own lab e old new moving
        by false = undo_own lab e old new moving

    course_own : (left : Left) (steps : List Event) → IsSent (plan_by lab old new commit) left steps → AreOwn steps
    course_own left steps sent op applied answer has =
        let r = Has-map (λ (c : DeviceOp × Result Answer Fault). Did c.0 true c.1) sent.sent (Did op applied answer) (subst (λ l. Has l (Did op applied answer)) sent.steps_are has) in
        subst (λ o. IsCommandOf lab e o) (same_op r.0.0 op true applied r.0.1 answer r.2) (sent_own sent.sent (whole (plan_by lab old new commit)) left plan_own sent.goes r.0 r.1)

    then_own : (front steps : List Event) (left : Left) (op : DeviceOp) (applied : Bool) (answer : Result Answer Fault) → IsSent (plan_by lab old new commit) left front → next left.todo left.watch left.boot ≡ Some op
        → steps ≡ front ++ Did op applied answer ∷ [] → AreOwn steps
    then_own front steps left op applied answer sent comes is =
        subst AreOwn (sym is) (own_both front (Did op applied answer ∷ []) (course_own left front sent) (own_one op applied answer (own_by lab e old new commit moving sent.sent left op sent.goes comes)))

    pub cut_own : (trouble : Trouble) (steps : List Event) → IsCut (plan_by lab old new commit) trouble steps → AreOwn steps
    cut_own trouble steps cut = then_own cut.front steps cut.left cut.op cut.applied cut.answer cut.sent cut.comes cut.steps_are

    halted_own : (steps : List Event) → IsHalted (plan_by lab old new commit) steps → AreOwn steps
    halted_own steps (before left sent) = course_own left steps sent
    halted_own steps (within front left op applied sent comes is) = then_own front steps left op applied (Err answers.Stopped) sent comes is

-- THE STEPS OF TURNS, each after the course so far
module _ (s : LabState) (e : Experiment) where
  abbrev pub OfIt : List Event → Type 0
  OfIt steps = AreOwn (lab_in s.lab) e steps

  whole_own : (r : Record) (move : Move) (steps : List Event) (after : LabState) → IsWhole s r move steps after → OfIt steps
  whole_own r move steps after is = own_calm (lab_in s.lab) e steps (ap has_command is.steps_are ∙ (append_quiet is.side is.gate r All).0)

  missed_own : (r : Record) (move : Move) (steps : List Event) (after : LabState) → IsBroken missed s r move steps after → OfIt steps
  missed_own r move steps after is = own_calm (lab_in s.lab) e steps (shows is_command steps (added is.side is.gate r is.run) (missed is.side) false false is.steps_are (append_quiet is.side is.gate r is.run).0 refl)

  part_own : (r : Record) (move : Move) (steps : List Event) (after : LabState) → IsBroken nothing s r move steps after → OfIt steps
  part_own r move steps after is = own_calm (lab_in s.lab) e steps (shows is_command steps (added is.side is.gate r is.run) (nothing is.side) false false is.steps_are (append_quiet is.side is.gate r is.run).0 refl)

  module _ (o : OpenSwap) (moving : e.phase ≡ Moving o.swap.old o.swap.new) where
    abbrev pub commit_of : Bool
    commit_of = commits o.swap o.leg

    all_own : (course steps : List Event) → IsSent (plan_in s o) nothing_left course → OfIt steps → OfIt (course ++ steps)
    all_own course steps sent own = own_both (lab_in s.lab) e course steps (course_own (lab_in s.lab) e o.swap.old o.swap.new commit_of moving nothing_left course sent) own

    pub turn_own : (steps : List Event) (outcome : Outcome) (after : LabState) → TurnSteps s o steps outcome after → OfIt (o.course ++ steps)
    turn_own steps More after turn = course_own (lab_in s.lab) e o.swap.old o.swap.new commit_of moving turn.1.0 (o.course ++ steps) turn.1.1
    turn_own steps (TurnsBack why) after turn = cut_own (lab_in s.lab) e o.swap.old o.swap.new commit_of moving why (o.course ++ steps) turn.1
    turn_own steps (Ended leg) after turn = all_own o.course steps turn.0.0 (whole_own _ _ steps after turn.0.1)
    turn_own steps (Stuck trouble) after turn = cut_own (lab_in s.lab) e o.swap.old o.swap.new commit_of moving trouble (o.course ++ steps) turn.1
    turn_own steps Unwritten after turn = all_own o.course steps turn.0 (missed_own _ _ steps after turn.1)
    turn_own steps Stopped after (inl x) = halted_own (lab_in s.lab) e o.swap.old o.swap.new commit_of moving (o.course ++ steps) x.0
    turn_own steps Stopped after (inr x) = all_own o.course steps x.0 (part_own _ _ steps after x.1)

    -- from one place to a later one, and on by a turn
    onward_own : (front behind : List Event) (at : OpenSwap) → Onward s o front at → OfIt (at.course ++ behind) → OfIt (o.course ++ (front ++ behind))
    onward_own front behind at (along is) own = subst OfIt (ap (λ (x : OpenSwap). x.course ++ behind) is ∙ append_assoc o.course front behind) own
    onward_own front behind at (back why sent course is_forth has cut is steps_are) own =
        subst OfIt (append_assoc o.course sent (course ++ behind) ∙ ap (λ l. o.course ++ l) (sym (append_assoc sent course behind) ∙ ap (λ l. l ++ behind) (sym steps_are)))
        (own_both (lab_in s.lab) e (o.course ++ sent) (course ++ behind) (cut_own (lab_in s.lab) e o.swap.old o.swap.new commit_of moving why (o.course ++ sent) cut) (subst OfIt (ap (λ (x : OpenSwap). x.course ++ behind) is) own))

  pub finish_own : (o : OpenSwap) (steps : List Event) (outcome : Outcome) (after : LabState) → e.phase ≡ Moving o.swap.old o.swap.new → Finishes s o steps outcome after → OfIt (o.course ++ steps)
  finish_own o steps outcome after moving f =
      subst (λ l. OfIt (o.course ++ l)) (sym f.steps_are)
      (onward_own o moving f.front f.behind f.at f.onward (turn_own f.at (subst (λ (p : Swap). e.phase ≡ Moving p.old p.new) (sym (onward_swap s o f.front f.at f.onward)) moving) f.behind outcome after f.turn))

-- WHAT THEY LEAVE of another experiment
module _ (lab : Lab) (es : List Experiment) (is_lab : IsLab lab) (holding : Holding lab es) (e f : Experiment) (in_e : Has es e) (in_f : Has es f) (differ : e ≢ f) where
  same_after : (w : World) (event : Event) → ((op : DeviceOp) (applied : Bool) (answer : Result Answer Fault) → event ≡ Did op applied answer → IsCommandOf lab f op) → SameFor lab e w (world_after w event)
  same_after w (Did op applied answer) own = others_same lab es is_lab holding w e f op applied answer in_e in_f differ (own op applied answer refl)
  same_after w (Wrote side at bytes) own = same_world lab e w
  same_after w (Synced side) own = same_world lab e w
  same_after w (CutTo side size) own = same_world lab e w
  same_after w (Missed side) own = same_world lab e w
  same_after w (Restarted a b) own = same_world lab e w
  same_after w (Unread device) own = same_world lab e w

  same_along : (steps : List Event) (w : World) → AreOwn lab f steps → SameFor lab e w (fold world_after w steps)
  same_along [] w own = same_world lab e w
  same_along (x ∷ steps) w own =
      same_trans lab e w (world_after w x) (fold world_after (world_after w x) steps) (same_after w x (λ op applied answer is. own op applied answer (inl is)))
      (same_along steps (world_after w x) (λ op applied answer has. own op applied answer (inr has)))

module _ (s : LabState) (o : OpenSwap) (w : World) (e : Experiment) (sane : Sane s) (moves : Moves o.swap s) (listed : Has s.experiments e) (other : e.name ≢ o.swap.name) where
  same_behind : (steps : List Event) → AreOwn (lab_in s.lab) moves.exp (o.course ++ steps) → SameFor (lab_in s.lab) e w (fold world_after w steps)
  same_behind steps own =
      let found = found_from o.swap.name s.experiments moves.exp moves.found in
      let in_f : Has s.experiments moves.exp = subst (λ (l : List Experiment). Has l moves.exp) (sym found.whole) (Has-right found.before (moves.exp ∷ found.after) moves.exp (inl refl)) in
      same_along (lab_in s.lab) s.experiments sane.is_lab sane.holding e moves.exp listed in_f (λ same. other (ap (λ (x : Experiment). x.name) same ∙ found.name_is)) steps w (own_behind (lab_in s.lab) moves.exp o.course steps own)

  pub turn_elsewhere : (steps : List Event) (outcome : Outcome) (after : LabState) → TurnSteps s o steps outcome after → SameFor (lab_in s.lab) e w (fold world_after w steps)
  turn_elsewhere steps outcome after turn = same_behind steps (turn_own s moves.exp o moves.moving steps outcome after turn)

  pub finish_elsewhere : (steps : List Event) (outcome : Outcome) (after : LabState) → Finishes s o steps outcome after → SameFor (lab_in s.lab) e w (fold world_after w steps)
  finish_elsewhere steps outcome after f = same_behind steps (finish_own s moves.exp o steps outcome after moves.moving f)
