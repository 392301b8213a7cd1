-- Steps of a swap, and of settlings, among which nothing goes wrong.
use Rattle.std.specs.Prelude.{count_by}
use Rattle.std.specs.List.{list_any}
use Rattle.std.proofs.Common.{◌≡◌, ◌⊎◌, inl, inr, ℕ, Bool, true, false, ◌||◌, List, [], ◌∷◌, ◌++◌, append_assoc, Some, Result, refl, sym, ◌∙◌, ap, subst, arith}
use Rattle.plant.specs.Events.{Event, Did}
use Rattle.plant.specs.declared.device.Answer.{Answer}
use Rattle.plant.specs.declared.device.DeviceOp.{DeviceOp}
use Rattle.plant.specs.declared.device.Fault.{Fault}
use Rattle.swap_turns.specs.Pieces.{has_miss, is_miss, is_restart}
use Rattle.lab_model.specs.Courses.{Plan, Trouble, op_node, whole}
use Rattle.lab_model.specs.Leavings.{Sent}
use Rattle.lab_model.specs.OnCourse.{acknowledged}
use Rattle.records_model.specs.Labs.{LabState}
use Rattle.recovery.specs.Settle.{is_stuck}
use Rattle.swap_turns.specs.Beginning.{settling}
use Rattle.swap_turns.specs.Courses.{IsCut}
use Rattle.swap_turns.specs.Finishing.{IsOver, Onward, along, back, Finishes}
use Rattle.swap_turns.specs.Running.{OpenSwap}
use Rattle.swap_turns.specs.Showing.{is_unwritten}
use Rattle.swap_turns.specs.Settling.{IsSettled, Settles}
use Rattle.swap_turns.specs.Swaps.{Swap}
use Rattle.swap_turns.specs.Turning.{Outcome, More, TurnsBack, Ended, Stuck, Unwritten, Stopped, TurnSteps, plan_in}
use Rattle.swap_turns.proofs.Showing.{finish_shows, turn_shows}
use Rattle.complete.specs.Booted.{GoesWell, all_come_up, is_failure}
use Rattle.complete.proofs.CutShows.{no_cut, own_by, up_after}

or_last : (x y : Bool) → x || y ≡ false → y ≡ false
or_last true y is = absurd (cc is)
or_last false y is = is

or_first : (x y : Bool) → x || y ≡ false → x ≡ false
or_first true y is = absurd (cc is)
or_first false y is = refl

-- PARTS of steps that go well
any_after : (f : Event → Bool) (before behind : List Event) → list_any f (before ++ behind) ≡ false → list_any f behind ≡ false
any_after f [] behind is = is
any_after f (x ∷ before) behind is = any_after f before behind (or_last (f x) _ is)

pub any_front : (f : Event → Bool) (before behind : List Event) → list_any f (before ++ behind) ≡ false → list_any f before ≡ false
any_front f [] behind is = refl
any_front f (x ∷ before) behind is = ap (λ b. b || list_any f before) (or_first (f x) _ is) ∙ any_front f before behind (or_last (f x) _ is)

up_last : (before behind : List Event) → all_come_up (before ++ behind) ≡ true → all_come_up behind ≡ true
up_last [] behind is = is
up_last (x ∷ before) behind is = up_last before behind (up_after x (before ++ behind) is)

pub well_after : (before behind : List Event) → GoesWell (before ++ behind) → GoesWell behind
well_after before behind well = record {
  no_miss = any_after is_miss before behind well.no_miss;
  no_restart = any_after is_restart before behind well.no_restart;
  no_failure = any_after is_failure before behind well.no_failure;
  up = up_last before behind well.up;
}

-- A COURSE IN ONE PIECE
alike_all : (op : DeviceOp) (node : List ℕ) → op_node op ≡ Some node → true ≡ true
alike_all op node is = refl

all_own : (sent : Sent) (op : DeviceOp) (applied : Bool) (answer : Result Answer Fault) → own_by (λ o. true) alike_all (acknowledged sent ++ Did op applied answer ∷ []) ≡ acknowledged sent ++ Did op applied answer ∷ []
all_own [] op applied answer = refl
all_own (c ∷ sent) op applied answer = ap (λ l. Did c.0 true c.1 ∷ l) (all_own sent op applied answer)

pub uncut : (plan : Plan) (trouble : Trouble) (course more : List Event) → IsCut plan trouble course → GoesWell (course ++ more) → ⊥
uncut plan trouble course more cut well =
    let are : course ≡ acknowledged cut.sent.sent ++ Did cut.op cut.applied cut.answer ∷ [] = cut.steps_are ∙ ap (λ l. l ++ Did cut.op cut.applied cut.answer ∷ []) cut.sent.steps_are in
    no_cut (λ o. true) alike_all cut.left cut.op cut.applied cut.answer trouble cut.comes cut.cut more course (whole plan) cut.sent.sent
    (subst (λ l. own_by (λ o. true) alike_all l ≡ acknowledged cut.sent.sent ++ Did cut.op cut.applied cut.answer ∷ []) (sym are) (all_own cut.sent.sent cut.op cut.applied cut.answer))
    cut.sent.goes tt well.up well.no_failure

-- TURNS OF A SWAP whose course can't be cut, whatever steps that go well stand after what it has sent so far
abbrev pub IsSafe : List Event → LabState → OpenSwap → Type 0
IsSafe past s o = (trouble : Trouble) (steps more : List Event) → IsCut (plan_in s o) trouble (o.course ++ steps) → GoesWell (past ++ (steps ++ more)) → ⊥

-- one that was sent nothing of is
pub new_safe : (past : List Event) (s : LabState) (o : OpenSwap) → o.course ≡ [] → IsSafe past s o
new_safe past s o none trouble steps more cut well = uncut (plan_in s o) trouble steps more (subst (λ l. IsCut (plan_in s o) trouble (l ++ steps)) none cut) (well_after past (steps ++ more) well)

written : (steps more : List Event) (miss : Bool) → has_miss steps ≡ miss → GoesWell (steps ++ more) → miss ≡ false
written steps more miss is well = sym is ∙ any_front is_miss steps more well.no_miss

abbrev pub EndsWell : OpenSwap → Outcome → Type 0
EndsWell o outcome = (outcome ≡ Ended o.leg) ⊎ (outcome ≡ Stopped)

module _ (past : List Event) (s : LabState) (o : OpenSwap) (safe : IsSafe past s o) where
  pub turn_well : (steps more : List Event) (outcome : Outcome) (after : LabState) → TurnSteps s o steps outcome after → GoesWell (past ++ (steps ++ more)) → (outcome ≡ More) ⊎ EndsWell o outcome
  turn_well steps more More after turn well = inl refl
  turn_well steps more (TurnsBack why) after turn well = absurd (safe why steps more turn.1 well)
  turn_well steps more (Ended leg) after turn well = inr (inl (ap (λ l. Ended l) (sym turn.1)))
  turn_well steps more (Stuck trouble) after turn well = absurd (safe trouble steps more turn.1 well)
  turn_well steps more Unwritten after turn well = absurd (cc (written steps more true (turn_shows s o steps Unwritten after turn).miss_is (well_after past (steps ++ more) well)))
  turn_well steps more Stopped after turn well = inr (inr refl)

  -- further on along its course it can't be cut either
  safe_on : (front : List Event) (at : OpenSwap) → at ≡ record o { course = o.course ++ front } → (trouble : Trouble) (steps more : List Event) → IsCut (plan_in s at) trouble (at.course ++ steps) → GoesWell (past ++ ((front ++ steps) ++ more)) → ⊥
  safe_on front at is trouble steps more cut well =
      safe trouble (front ++ steps) more (subst (λ l. IsCut (plan_in s o) trouble l) (append_assoc o.course front steps) (subst (λ (x : OpenSwap). IsCut (plan_in s x) trouble (x.course ++ steps)) is cut)) well

  pub finish_well : (steps more : List Event) (outcome : Outcome) (after : LabState) → Finishes s o steps outcome after → GoesWell (past ++ (steps ++ more)) → EndsWell o outcome
  finish_well steps more outcome after f well = by f.onward outcome f.turn f.over (finish_shows s o steps outcome after f).miss_is
    where
      whole_well : GoesWell (past ++ ((f.front ++ f.behind) ++ more))
      whole_well = subst (λ l. GoesWell (past ++ (l ++ more))) f.steps_are well

      by : Onward s o f.front f.at → (outcome : Outcome) → TurnSteps s f.at f.behind outcome after → IsOver outcome → has_miss steps ≡ is_unwritten outcome → EndsWell o outcome
      by (back why sent course is_forth has cut is steps_are) outcome turn over miss =
          absurd (safe why sent ((course ++ f.behind) ++ more) cut
          (subst (λ l. GoesWell (past ++ l)) (ap (λ l. (l ++ f.behind) ++ more) steps_are ∙ ap (λ l. l ++ more) (append_assoc sent course f.behind) ∙ append_assoc sent (course ++ f.behind) more) whole_well))
      by (along is) More turn over miss = absurd over
      by (along is) (TurnsBack why) turn over miss = absurd over
      by (along is) (Ended leg) turn over miss = inl (ap (λ l. Ended l) (sym turn.1 ∙ ap (λ (x : OpenSwap). x.leg) is))
      by (along is) (Stuck trouble) turn over miss = absurd (safe_on f.front f.at is trouble f.behind more turn.1 whole_well)
      by (along is) Unwritten turn over miss = absurd (cc (written steps more true miss (well_after past (steps ++ more) well)))
      by (along is) Stopped turn over miss = inr refl

-- SETTLINGS
stuck_first : (outcome : Outcome) (outcomes : List Outcome) → is_stuck outcome ≡ false → count_by is_stuck outcomes ≡ 0 → count_by is_stuck (outcome ∷ outcomes) ≡ 0
stuck_first outcome outcomes is none = grind arith

settled_one : (p : Swap) (outcome : Outcome) → IsSettled outcome → EndsWell (settling p) outcome → is_stuck outcome ≡ false
settled_one p outcome settled (inl is) = ap is_stuck is
settled_one p outcome settled (inr is) = absurd (subst IsSettled is settled)

pub settles_well : (s : LabState) (ps : List Swap) (outcomes : List Outcome) (steps more : List Event) (after : LabState) → Settles s ps outcomes steps after → GoesWell (steps ++ more) → count_by is_stuck outcomes ≡ 0
settles_well s [] [] steps more after is well = refl
settles_well s [] (outcome ∷ outcomes) steps more after is well = absurd is
settles_well s (p ∷ ps) [] steps more after is well = absurd is
settles_well s (p ∷ ps) (outcome ∷ outcomes) steps more after is well =
    let all = subst GoesWell (ap (λ l. l ++ more) is.5 ∙ append_assoc is.0 is.1 more) well in
    stuck_first outcome outcomes
    (settled_one p outcome is.3.settled (finish_well [] s (settling p) (new_safe [] s (settling p) refl) is.0 (is.1 ++ more) outcome is.2 is.3.is all))
    (settles_well is.2 ps outcomes is.1 more after is.4 (well_after is.0 (is.1 ++ more) all))
