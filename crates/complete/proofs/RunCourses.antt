-- Over a whole run the course of each open swap is its experiment's own commands since its leg began.
use Rattle.std.proofs.Common.{Result, Ok, ◌≡◌, ◌≤◌, inl, inr, ℕ, Bool, true, false, ◌&&◌, is_some, List, [], ◌∷◌, ◌++◌, append_assoc, Option, Some, None, refl, sym, ◌∙◌, ap, subst, arith}
use Rattle.std.proofs.lemmas.List.{append-nil}
use Rattle.lab_base.specs.Lists.{AllDiffer, Has}
use Rattle.phys_lab.specs.Labs.{Lab}
use Rattle.plant.specs.Events.{Event}
use Rattle.plant.specs.declared.drill.Drill.{Drill}
use Rattle.virt_topo.specs.declared.experiment.Experiment.{Experiment}
use Rattle.lab_model.specs.OnCourse.{own_events}
use Rattle.records_model.specs.Labs.{LabState, Sane, find, lab_in}
use Rattle.records_model.proofs.LabLaws.{lab_sane}
use Rattle.lab_state.specs.Texts.{the_texts}
use Rattle.script_text.specs.Drills.{drill_of}
use Rattle.script_text.specs.declared.command.Command.{Command}
use Rattle.script_text.specs.declared.command.Command.TheVariants.{Play, Batch, Audit}
use Rattle.script_text.specs.declared.reply.Reply.{Reply}
use Rattle.swap_turns.specs.Legs.{Leg, Forth}
use Rattle.swap_turns.specs.Running.{OpenSwap as RunningSwap}
use Rattle.swap_turns.specs.Swaps.{Swap, Moves}
use Rattle.lab_core.specs.Auditing.{Audits, no_lab, told as all_told, unread, no_memory}
use Rattle.lab_core.specs.Commands.{LabStep, ground_by}
use Rattle.lab_judge.specs.Judge.{is_unjudged}
use Rattle.lab_core.specs.LabSteps.{DoesBy, JudgedBeside, StepOf, not_opened, opened}
use Rattle.lab_core.specs.Moments.{IsLabAt}
use Rattle.lab_core.specs.Sessions.{OpenSwap, Session, Closed, Open, Setting, After, Terms, name_in}
use Rattle.lab_core.specs.Tells.{busy_of, opens_of}
use Rattle.lab_core.proofs.Audited.{kept, opens_stay}
use Rattle.lab_core.proofs.Others.{Stays, same_stays}
use Rattle.lab_top.specs.Pieces.{Piece, Begun, AreHandedOn, ArePieces, ButForReply, Finds, FirstLab, IsPiece, Leads, StepsFrom, is_closed, session_after, stays_open, steps_of, trace_after}
use Rattle.lab_top.proofs.TurnLaws.{they_differ}
use Rattle.complete.specs.Booted.{GoesWell}
use Rattle.complete.specs.Bounds.{commands_in, most_from}
use Rattle.complete.specs.OpenCourses.{AreOnLeg, IsCourse, IsOnLeg, forth, steps_in, undo}
use Rattle.lab_core.proofs.ListSteps.{plain_step}
use Rattle.complete.proofs.PlayedOn.{list_continues}
use Rattle.lab_core.specs.Lists.{DoesList, Listing}
use Rattle.lab_core.specs.PlayList.{JudgedPlay, events_in_turn}
use Rattle.lab_judge.specs.Serving.{JudgedBatch}
use Rattle.lab_core.specs.BatchList.{runs_in_turn}
use Rattle.lab_core.proofs.Events.{events_are}
use Rattle.lab_core.proofs.Listings.{IsAboutThese}
use Rattle.lab_core.proofs.Runs.{AreOf, runs_are}
use Rattle.lab_top.proofs.RunLaws.{set_with}
use Rattle.complete.proofs.Continued.{Continues, GoesWithin, along, begun_now, done_continue, undone}
use Rattle.complete.proofs.GoingWell.{IsSafe}
use Rattle.complete.proofs.OpenUncut.{open_safe}
use Rattle.complete.proofs.OwnCommands.{own_both}
use Rattle.complete.proofs.Runs.{AllSafe}

-- two sides stand for one lab
abbrev pub StandOnce : Type 0
StandOnce = (trace : List Event) (s u : LabState) → IsLabAt trace s → IsLabAt trace u → s ≡ u

-- THE STEPS of commands one after another
steps_both : (made more : List Begun) → steps_in (made ++ more) ≡ steps_in made ++ steps_in more
steps_both [] more = refl
steps_both (b ∷ made) more = ap (λ l. steps_of b.piece ++ l) (steps_both made more) ∙ sym (append_assoc (steps_of b.piece) (steps_in made) (steps_in more))

steps_push : (made : List Begun) (b : Begun) → steps_in (made ++ b ∷ []) ≡ steps_in made ++ steps_of b.piece
steps_push made b = steps_both made (b ∷ []) ∙ ap (λ l. steps_in made ++ l) (append-nil (steps_of b.piece))

on_push : (swap : Swap) (leg : Leg) (made : List Begun) (b : Begun) → AreOnLeg swap leg made → IsOnLeg swap leg b.piece.from → AreOnLeg swap leg (made ++ b ∷ [])
on_push swap leg [] b are is = (is, tt)
on_push swap leg (x ∷ made) b are is = (are.0, on_push swap leg made b are.1 is)

-- A SWAP IS OPEN after these commands: its course is as said, no longer than its leg and the undo, and where these and further steps go well, it goes
-- forth
pub record IsGoing (made : List Begun) (s : LabState) (o : RunningSwap) : Type 0 where
  pub course : IsCourse made s o
  pub few : commands_in o.course ≤ most_from (lab_in s.lab) o.swap o.leg
  pub goes_forth : (more : List Event) → GoesWell (steps_in made ++ more) → o.leg ≡ Forth

pub safe_on_course : (made : List Begun) (s : LabState) (o : RunningSwap) → IsCourse made s o → IsSafe (steps_in made) s o
safe_on_course made s o c =
    let split : steps_in made ≡ (steps_in c.front ++ steps_of c.first.piece) ++ steps_in c.behind =
    ap steps_in c.made_are ∙ steps_both c.front (c.first ∷ c.behind) ∙ sym (append_assoc (steps_in c.front) (steps_of c.first.piece) (steps_in c.behind)) in
    subst (λ l. IsSafe l s o) (sym split) (open_safe (steps_in c.front ++ steps_of c.first.piece) (steps_in c.behind) s o c.moves c.own)

-- ONE COMMAND MORE
module _ (made : List Begun) (b : Begun) (s u : LabState) (here : (q : OpenSwap) → Has (opens_of b.piece.from) q → IsGoing made s q.running) (unopened : (q : OpenSwap) → Has (opens_of b.piece.from) q → b.piece.opening ≡ []) where
  well_before : (more : List Event) → GoesWell (steps_in (made ++ b ∷ []) ++ more) → GoesWell (steps_in made ++ (steps_of b.piece ++ more))
  well_before more well = subst GoesWell (ap (λ l. l ++ more) (steps_push made b) ∙ append_assoc (steps_in made) (steps_of b.piece) more) well

  went_along : (q : OpenSwap) → Has (opens_of b.piece.from) q → (more : List Event) → Stays (name_in q) s u → ((e : Experiment) → find (name_in q) s.experiments ≡ Some e → own_events (lab_in s.lab) e b.piece.own ≡ more)
      → GoesWithin s q.running more → IsGoing (made ++ b ∷ []) u (record q.running { course = q.running.course ++ more })
  went_along q has more stays own within =
      let c = (here q has).course in
      let m = c.moves in
      let behind_is : steps_in (c.behind ++ b ∷ []) ≡ steps_in c.behind ++ b.piece.own = steps_push c.behind b ∙ ap (λ l. steps_in c.behind ++ (l ++ b.piece.own)) (unopened q has) in
      record {
        course = record {
          moves = record { is_swap = m.is_swap; short = m.short; exp = m.exp; found = stays.same ∙ m.found; moving = m.moving };
          front = c.front;
          first = c.first;
          behind = c.behind ++ b ∷ [];
          made_are = ap (λ l. l ++ b ∷ []) c.made_are ∙ append_assoc c.front (c.first ∷ c.behind) (b ∷ []);
          begins = c.begins;
          on_leg = on_push q.running.swap q.running.leg c.behind b c.on_leg (q, has, refl, refl);
          own = subst (λ (l : Option Lab). own_events (lab_in l) m.exp (steps_in (c.behind ++ b ∷ [])) ≡ q.running.course ++ more) (sym stays.lab)
              (ap (λ l. own_events (lab_in s.lab) m.exp l) behind_is ∙ own_both (lab_in s.lab) m.exp (steps_in c.behind) b.piece.own ∙ (λ i. c.own i ++ own m.exp m.found i));
        };
        few = subst (λ (l : Option Lab). commands_in (q.running.course ++ more) ≤ most_from (lab_in l) q.running.swap q.running.leg) (sym stays.lab) (no_longer within);
        goes_forth = λ more well. (here q has).goes_forth (steps_of b.piece ++ more) (well_before more well);
      }
    where
      no_longer : GoesWithin s q.running more → commands_in (q.running.course ++ more) ≤ most_from (lab_in s.lab) q.running.swap q.running.leg
      no_longer (inl none) = omega (arith, ap (λ l. commands_in (q.running.course ++ l)) none, ap commands_in (append-nil q.running.course), (here q has).few)
      no_longer (inr few) = few

  pub goes_on : (o : RunningSwap) → Continues s u (opens_of b.piece.from) b.piece.own b.piece.reply o → IsGoing (made ++ b ∷ []) u o
  goes_on o (along q has more is stays own within) = subst (λ (x : RunningSwap). IsGoing (made ++ b ∷ []) u x) (sym is) (went_along q has more stays own within)
  goes_on o (begun_now p is moves idle side gate way own) = subst (λ (x : RunningSwap). IsGoing (made ++ b ∷ []) u x) (sym is) (record {
    course = record { moves = moves; front = made; first = b; behind = []; made_are = refl; begins = forth refl idle side gate way own; on_leg = tt; own = refl };
    few = omega arith;
    goes_forth = λ more well. refl;
  })
  goes_on o (undone why q has is u_is was_forth undo_is one cut reply) = subst (λ (x : RunningSwap). IsGoing (made ++ b ∷ []) u x) (sym is) (record {
    course = record {
      moves = subst (λ (x : LabState). Moves q.running.swap x) (sym u_is) (here q has).course.moves;
      front = made;
      first = b;
      behind = [];
      made_are = refl;
      begins = undo why refl q has refl was_forth one reply;
      on_leg = tt;
      own = refl;
    };
    few = omega arith;
    goes_forth = λ more well.
        absurd (safe_on_course made s q.running (here q has).course why b.piece.own more cut (subst (λ l. GoesWell (steps_in made ++ ((l ++ b.piece.own) ++ more))) (unopened q has) (well_before more well)));
  })

-- A LAB STEP of a command that is no drill: the lab at which its own part begins, and how it leaves each open swap
module _ (terms : Terms) (before : List Event) (set : Setting) (s : LabState) (opening own : List Event) (after : After) (to : List OpenSwap) (open_now : after.session ≡ Open to) where
  abbrev StepContinues : Session → Type 0
  StepContinues session =
      (mid : LabState) × ((o : OpenSwap) → Has to o → Continues mid after.lab (opens_of session) own after.reply o.running) × ((o : OpenSwap) → Has (opens_of session) o → (mid ≡ s) × (opening ≡ []))

  abbrev AreOk : Session → Type 0
  AreOk session = (o : OpenSwap) → Has (opens_of session) o → Sane s × (is_some s.lab ≡ true)

  abbrev AllMoveIn : Session → Type 0
  AllMoveIn session = (o : OpenSwap) → Has (opens_of session) o → Moves o.running.swap s

  step_continues : (command : Command) (drill : Option Drill) → drill ≡ None → (session : Session) → AreOk session → AllMoveIn session → AllDiffer (busy_of session)
      → StepOf drill (DoesBy (JudgedBeside terms.rule command) set) terms s session opening own after → StepContinues session
  step_continues command (Some drill) none session ok moves differ step = absurd (cc none)
  step_continues command None none Closed ok moves differ (not_opened b) = absurd (cc (sym b.session ∙ open_now))
  step_continues command None none Closed ok moves differ (opened mid opens d) =
      (mid, done_continue own set mid [] (λ o none. absurd none) (λ o none. absurd none) tt after to open_now terms.rule command d, λ o none. absurd none)
  step_continues command None none (Open opens) ok moves differ step = (s, done_continue own set s opens ok moves differ after to open_now terms.rule command step.1, λ o has. (refl, step.0))

  -- a list of commands, by what is judged of it
  lists_continue : {X : Type 0} (l : Listing X) (Judged : List OpenSwap → LabState → Result X Reply → Type 0) (Holds : X → Type 0) (about : List ℕ → Bool) → IsAboutThese l Holds about → ((opens : List OpenSwap) (s : LabState) (start : X) → Judged opens s (Ok start) → Holds start)
      → (session : Session) → AreOk session → AllMoveIn session → AllDiffer (busy_of session) → StepOf None (λ opens s own after. DoesList l (Judged opens s) (ground_by set) (Some (before ++ opening)) s opens own after) terms s session opening own after → StepContinues session
  lists_continue l Judged Holds about are starts Closed ok moves differ (not_opened b) = absurd (cc (sym b.session ∙ open_now))
  lists_continue l Judged Holds about are starts Closed ok moves differ (opened mid opens d) =
      (mid, list_continues l Holds about are [] tt (Judged [] mid) (starts [] mid) (ground_by set) (Some (before ++ opening)) mid (λ o none. absurd none) (λ o none. absurd none) own after to open_now d, λ o none. absurd none)
  lists_continue l Judged Holds about are starts (Open opens) ok moves differ step =
      (s, list_continues l Holds about are opens differ (Judged opens s) (starts opens s) (ground_by set) (Some (before ++ opening)) s ok moves own after to open_now step.1, λ o has. (refl, step.0))

  -- an audit has no own command of any experiment
  audit_own : (w : Option (List Event)) (mid : LabState) (opens : List OpenSwap) (lab : Lab) (e : Experiment) → Audits w mid opens own after → own_events lab e own ≡ []
  audit_own w mid opens lab e (no_lab none d) = ap (λ l. own_events lab e l) d.nothing
  audit_own w mid opens lab e (all_told report nothing tells is) = ap (λ l. own_events lab e l) nothing
  audit_own w mid opens lab e (unread name own_is is) = ap (λ l. own_events lab e l) own_is
  audit_own w mid opens lab e (no_memory wants) = ap (λ l. own_events lab e l) wants.nothing

  audit_continues : (session : Session) → AreOk session → LabStep terms (Some before) set s session Audit opening own after → StepContinues session
  audit_continues Closed ok (not_opened b) = absurd (cc (sym b.session ∙ open_now))
  audit_continues Closed ok (opened mid opens d) =
      (mid, λ o has. absurd (subst (λ l. Has l o) (opens_stay (Some (before ++ opening)) mid [] own after to open_now d) has), λ o none. absurd none)
  audit_continues (Open opens) ok step =
      let w : Option (List Event) = Some (before ++ opening) in
      let same = opens_stay w s opens own after to open_now step.1 in (
        s,
        λ o has.
            let there = subst (λ l. Has l o) same has in
            along o there [] (ap (λ c. record o.running { course = c }) (sym (append-nil o.running.course)))
            (same_stays (name_in o) s after.lab (ok o there).1 (kept w s opens own after step.1))
            (λ e found. audit_own w s opens (lab_in s.lab) e step.1) (inl refl),
        λ o has. (refl, step.0),
      )

  plain_continues : (command : Command) → is_unjudged command ≡ false → drill_of command ≡ None → (session : Session) → AreOk session → AllMoveIn session → AllDiffer (busy_of session) → LabStep terms (Some before) set s session command opening own after → StepContinues session
  plain_continues command no' none session ok moves differ step = step_continues command (drill_of command) none session ok moves differ (plain_step terms (Some before) set s session command opening own after no' step)

  pub all_continue : (command : Command) → drill_of command ≡ None → (session : Session) → AreOk session → AllMoveIn session → AllDiffer (busy_of session) → LabStep terms (Some before) set s session command opening own after → StepContinues session
  all_continue (Play exp from until lines text) none session ok moves differ step =
      lists_continue (events_in_turn exp) (λ opens s. JudgedPlay s opens exp from until text) (λ at. Unit {0}) (λ n. true) (events_are exp (λ n. true) refl) (λ opens s start judged. tt) session ok moves differ step
  all_continue (Batch moment lines text) none session ok moves differ step =
      lists_continue (runs_in_turn terms.rule moment) (λ opens s. JudgedBatch s text) (λ at. AreOf (λ n. true) at.left) (λ n. true) (runs_are terms.rule moment (λ n. true)) (λ opens s start judged run has. refl) session ok moves differ step
  all_continue Audit none session ok moves differ step = audit_continues session ok step
  all_continue command none session ok moves differ step = plain_continues command refl none session ok moves differ step

-- a piece from an open session goes from the lab of the moment
pub at_open : (from : Session) (early : Bool) (trace : List Event) (s : LabState) (o : OpenSwap) → Has (opens_of from) o → FirstLab (is_closed from && early) trace s → IsLabAt trace s
at_open Closed early trace s o has first = absurd has
at_open (Open opens) early trace s o has first = first

-- and has no opening
opens_nothing : (drill : Option Drill) (from : Session) (trace : List Event) (piece : Piece) (o : OpenSwap) → Has (opens_of from) o → Finds drill from trace piece → piece.opening ≡ []
opens_nothing (Some drill) from trace piece o has finds = finds.0
opens_nothing None Closed trace piece o has finds = absurd has
opens_nothing None (Open opens) trace piece o has finds = finds

abbrev pub GoingAt : List Begun → List Event → Session → Type 0
GoingAt made trace session = (s : LabState) → IsLabAt trace s → (o : OpenSwap) → Has (opens_of session) o → IsGoing made s o.running

-- ONE PIECE, over any trace
module _ (terms : Terms) (once : StandOnce) (made : List Begun) (trace : List Event) (b : Begun) (is : IsPiece terms trace b.piece) (differ : AllDiffer (busy_of b.piece.from)) (here : GoingAt made trace b.piece.from) where
  -- it is answered where it leaves the session open
  pub replied : (opens : List OpenSwap) → b.piece.to ≡ Open opens → (reply : Option Reply) → b.piece.reply ≡ reply → (told : Reply) × (b.piece.reply ≡ Some told)
  replied opens open_now None told = absurd (cc (sym (is.leaves (ap stays_open told)) ∙ open_now))
  replied opens open_now (Some reply) told = (reply, told)

  pub sane_set : (s : LabState) → IsLabAt trace s → (o : OpenSwap) → Has (opens_of b.piece.from) o → Sane s × (is_some s.lab ≡ true)
  sane_set s at o has =
      let sane = lab_sane the_texts at.records s at.lab_of in
      let m = (here s at o has).course.moves in
      (sane, set_with (name_in o) s m.exp sane s.lab refl m.found)

  of_drill : (drill : Drill) → Finds (Some drill) b.piece.from trace b.piece → (u : LabState) → IsLabAt (trace ++ steps_of b.piece) u → (opens : List OpenSwap) → b.piece.to ≡ Open opens → (o : OpenSwap) → Has opens o → IsGoing (made ++ b ∷ []) u o.running
  of_drill drill finds u at opens open_now o has =
      let r = replied opens open_now b.piece.reply refl in
      let from_is : Open opens ≡ b.piece.from = sym open_now ∙ finds.2 (ap is_some r.1) in
      let there = subst (λ x. Has (opens_of x) o) from_is has in
      let none : steps_of b.piece ≡ [] = ap (λ l. l ++ b.piece.own) finds.0 ∙ finds.1 in
      let at_once = subst (λ l. IsLabAt l u) (ap (λ l. trace ++ l) none ∙ append-nil trace) at in
      goes_on made b u u (here u at_once) (λ q q_has. finds.0) o.running
      (along o there [] (ap (λ c. record o.running { course = c }) (sym (append-nil o.running.course))) (same_stays (name_in o) u u (sane_set u at_once o there).1 refl) (λ e found. ap (λ l. own_events (lab_in u.lab) e l) finds.1) (inl refl))

  by_leads : drill_of b.piece.command ≡ None → Leads terms trace b.piece → (u : LabState) → IsLabAt (trace ++ steps_of b.piece) u → (opens : List OpenSwap) → b.piece.to ≡ Open opens → (o : OpenSwap) → Has opens o → IsGoing (made ++ b ∷ []) u o.running
  by_leads none l u at opens open_now o has =
      let steps : StepsFrom terms trace b.piece l.first l.last = l.steps in
      let r = replied opens open_now b.piece.reply refl in
      let told : (steps.told ≡ Some r.0) × (steps.session ≡ b.piece.to) × (steps.behind ≡ []) = subst (λ (x : Option Reply). ButForReply x b.piece.to steps.told steps.session steps.behind) r.1 steps.is_told in
      let first_at : (q : OpenSwap) → Has (opens_of b.piece.from) q → IsLabAt trace l.first = (λ q there. at_open b.piece.from _ trace l.first q there l.before) in
      let x =
      all_continue terms trace _ l.first b.piece.opening (b.piece.own ++ steps.behind) _ opens (told.1 ∙ open_now) b.piece.command none b.piece.from
      (λ q there. sane_set l.first (first_at q there) q there) (λ q there. (here l.first (first_at q there) q there).course.moves) differ steps.step in
      let own_is : b.piece.own ++ steps.behind ≡ b.piece.own = ap (λ m. b.piece.own ++ m) told.2 ∙ append-nil b.piece.own in
      let so = subst (λ m. Continues x.0 l.last (opens_of b.piece.from) m steps.told o.running) own_is (x.1 o has) in
      let and_told = subst (λ (m : Option Reply). Continues x.0 l.last (opens_of b.piece.from) b.piece.own m o.running) (told.0 ∙ sym r.1) so in
      goes_on made b x.0 u (λ q there. subst (λ (m : LabState). IsGoing made m q.running) (sym (x.2 q there).0) (here l.first (first_at q there) q there)) (λ q there. (x.2 q there).1) o.running
      (subst (λ (m : LabState). Continues x.0 m (opens_of b.piece.from) b.piece.own b.piece.reply o.running) (once (trace ++ steps_of b.piece) l.last u l.behind at) and_told)

  pub piece_goes : GoingAt (made ++ b ∷ []) (trace ++ steps_of b.piece) b.piece.to
  piece_goes u at = by b.piece.to refl
    where
      by_drill : (opens : List OpenSwap) → b.piece.to ≡ Open opens → (drill : Option Drill) → drill_of b.piece.command ≡ drill → (o : OpenSwap) → Has opens o → IsGoing (made ++ b ∷ []) u o.running
      by_drill opens open_now (Some drill) it = of_drill drill (subst (λ (d : Option Drill). Finds d b.piece.from trace b.piece) it is.finds) u at opens open_now
      by_drill opens open_now None it = by_leads it (is.leads it (ap is_closed open_now)) u at opens open_now

      by : (to : Session) → b.piece.to ≡ to → (o : OpenSwap) → Has (opens_of to) o → IsGoing (made ++ b ∷ []) u o.running
      by Closed shut o has = absurd has
      by (Open opens) open_now o has = by_drill opens open_now (drill_of b.piece.command) refl o has

  pub still_differ : AllDiffer (busy_of b.piece.to)
  still_differ = by b.piece.to refl
    where
      by : (to : Session) → b.piece.to ≡ to → AllDiffer (busy_of b.piece.to)
      by Closed shut = subst (λ (x : Session). AllDiffer (busy_of x)) (sym shut) tt
      by (Open opens) open_now = they_differ terms trace b.piece is (ap is_closed open_now) differ

-- THE PIECES OF A RUN, from a session in which all is so
module _ (terms : Terms) (once : StandOnce) where
  pub going_after : (made before after : List Begun) (trace : List Event) (session : Session) → ArePieces terms trace (before ++ after) → AreHandedOn session (before ++ after) → AllDiffer (busy_of session) → GoingAt made trace session
      → GoingAt (made ++ before) (trace_after trace before) (session_after session before)
  going_after made [] after trace session are handed differ here = subst (λ l. GoingAt l trace session) (sym (append-nil made)) here
  going_after made (b ∷ before) after trace session are handed differ here =
      let differ_here = subst (λ (x : Session). AllDiffer (busy_of x)) (sym handed.0) differ in
      let so = subst (λ (x : Session). GoingAt made trace x) (sym handed.0) here in
      subst (λ l. GoingAt l (trace_after trace (b ∷ before)) (session_after session (b ∷ before))) (append_assoc made (b ∷ []) before)
      (going_after (made ++ b ∷ []) before after (trace ++ steps_of b.piece) b.piece.to are.1 handed.1 (still_differ terms once made trace b are.0 differ_here so) (piece_goes terms once made trace b are.0 differ_here so))

  -- where all their steps go well, each swap that one of them turns goes forth, and isn't cut
  pub all_safe : (made rest : List Begun) (trace : List Event) (session : Session) → ArePieces terms trace rest → AreHandedOn session rest → AllDiffer (busy_of session) → GoesWell (steps_in made ++ steps_in rest) → GoingAt made trace session
      → AllSafe trace rest
  all_safe made [] trace session are handed differ well here = tt
  all_safe made (b ∷ rest) trace session are handed differ well here =
      let differ_here = subst (λ (x : Session). AllDiffer (busy_of x)) (sym handed.0) differ in
      let so = subst (λ (x : Session). GoingAt made trace x) (sym handed.0) here in
      let next = steps_push made b in (
        λ s first o has turns.
            let g = so s (at_open b.piece.from _ trace s o has first) o has in
            let own_only : steps_of b.piece ≡ b.piece.own = ap (λ l. l ++ b.piece.own) (opens_nothing (drill_of b.piece.command) b.piece.from trace b.piece o has are.0.finds) in
            record {
              forth = g.goes_forth (steps_in (b ∷ rest)) well;
              past = steps_in made;
              well = subst (λ l. GoesWell (steps_in made ++ (l ++ steps_in rest))) own_only well;
              safe = λ moves. safe_on_course made s o.running g.course;
            },
        all_safe (made ++ b ∷ []) rest (trace ++ steps_of b.piece) b.piece.to are.1 handed.1 (still_differ terms once made trace b are.0 differ_here so)
            (subst GoesWell (sym (ap (λ l. l ++ steps_in rest) next ∙ append_assoc (steps_in made) (steps_of b.piece) (steps_in rest))) well) (piece_goes terms once made trace b are.0 differ_here so),
      )
