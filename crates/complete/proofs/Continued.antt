-- A command continues the course of each open swap by its experiment's own commands among the command's steps, or begins its leg.
use Rattle.std.specs.Prelude.{length, nat_le, is_none}
use Rattle.std.specs.Str.{bytes_eq}
use Rattle.std.proofs.Common.{◌≡◌, ◌≢◌, ◌⊎◌, inl, inr, ℕ, Bool, true, false, cond, ◌&&◌, ◌||◌, ◌≤◌, is_some, List, [], ◌∷◌, ◌++◌, Option, Some, None, Result, Ok, Err, refl, sym, ◌∙◌, ap, subst, arith}
use Rattle.std.proofs.lemmas.List.{append-nil}
use Rattle.std.proofs.lemmas.Slice.Eq.{bytes_eq-Decides}
use Rattle.lab_base.specs.Lists.{AllDiffer, Has}
use Rattle.lab_base.proofs.Members.{Has-append, Has-left, Has-mapped, Has-right}
use Rattle.phys_lab.specs.Labs.{Lab}
use Rattle.plant.specs.Events.{Event}
use Rattle.plant.specs.declared.step.Side.{Side}
use Rattle.virt_topo.specs.declared.experiment.Experiment.{Experiment}
use Rattle.virt_topo.specs.declared.experiment.Phase.{Phase}
use Rattle.virt_topo.specs.declared.experiment.Phase.TheVariants.{Moving, Out}
use Rattle.virt_topo.specs.declared.mapping.Mapped.{Mapped}
use Rattle.virt_topo.specs.declared.wiring.Wiring.{Wiring}
use Rattle.journal_rec.specs.declared.record.Way.{Way}
use Rattle.journal_rec.specs.declared.record.Record.{Record}
use Rattle.journal_rec.specs.declared.record.Record.TheVariants as records
use Rattle.journal_rec.specs.declared.record.Record.TheVariants.{Begin}
use Rattle.journal_model.specs.Appends.{All, added}
use Rattle.swap_turns.specs.Pieces.{has_command}
use Rattle.swap_turns.proofs.Endings.{append_quiet}
use Rattle.lab_model.specs.Courses.{Trouble}
use Rattle.lab_model.specs.OnCourse.{own_events}
use Rattle.records_model.specs.Labs.{LabState, Move, Sane, Says, Creates, Deletes, deleted, find, in_state, is_out, lab_in, moved, moved_of, others}
use Rattle.cost_rule.specs.declared.rule.RuleNumber.{RuleNumber}
use Rattle.lab_state.specs.Texts.{the_texts}
use Rattle.swap_turns.specs.Beginning.{opened as opened_swap}
use Rattle.swap_turns.specs.Legs.{Forth, HasLeg, Undo, commits, last, last_move}
use Rattle.records_model.proofs.LabLaws.{follows_sane}
use Rattle.swap_turns.specs.Courses.{IsCut}
use Rattle.swap_turns.specs.Swaps.{Swap as SwapOf, Moves}
use Rattle.swap_txn.specs.Troubles.{what_of}
use Rattle.swap_turns.specs.Running.{OpenSwap as RunningSwap}
use Rattle.swap_turns.specs.Turning.{Outcome, More, TurnsBack, Ended, Stuck, Unwritten, Stopped as Halted, TurnSteps, IsOneCommand, plan_in}
use Rattle.swap_turns.specs.Whole.{SwapSteps, begun, unwritten, stopped as halted}
use Rattle.swap_turns.specs.Finishing.{Finishes, IsOver}
use Rattle.swap_turns.proofs.Only.{only_sent}
use Rattle.script_text.specs.declared.command.Command.{Command}
use Rattle.script_text.specs.declared.reply.Reply.{Reply}
use Rattle.script_text.specs.declared.reply.Reply.TheVariants.{Trouble as TroubleReply}
use Rattle.lab_core.specs.Breaks.{StartsAfter}
use Rattle.lab_tasks.specs.Tasks.{Task, Tell, Append, Swap, BeginOnly, Turn, Finish, Recover}
use Rattle.lab_core.specs.LabSteps.{AppendEnds, Appends, BeginSteps, Begins, Does, EndsSwap, IfSpace, IsAnswered, IsDoneBy, JudgedBeside, Replies, Swaps, Turns, begun_at, broken, does, end_reply, end_session, has_space, is_told, no_memory, turn_reply, turned_on, whole}
use Rattle.lab_core.specs.Recovery.{Recovers, broken_off, settled}
use Rattle.lab_core.specs.Sessions.{OpenSwap, Open, Setting, After, name_in, names_of}
use Rattle.lab_tasks.specs.OpenNames.{is_among, name_of}
use Rattle.recovery.specs.Due.{is_busy}
use Rattle.lab_core.proofs.Listings.{IsPlain}
use Rattle.lab_judge.proofs.Fits.{IsFit, IsOwn, fits}
use Rattle.complete.specs.Bounds.{commands_in, most_from}
use Rattle.complete.proofs.OwnCommands.{all_its, only_last}
use Rattle.complete.proofs.Sending.{commands_both, open_few}
use Rattle.swap_turns.proofs.Elsewhere.{own_behind, turn_own}
use Rattle.complete.proofs.OtherSettlings.{due_apart, due_move, last_says, settles_quiet}
use Rattle.complete.proofs.OtherSwaps.{begins_apart, begun_quiet, calm_quiet, finish_quiet, turn_quiet}
use Rattle.lab_core.proofs.Others.{IsApart, Stays, busy_apart, ended_stays, move_stays, same_stays, settled_stay, swap_stays, turned_stays}

-- a course goes on by nothing, or to no more commands than its leg has, with those of the undo
abbrev pub GoesWithin : LabState → RunningSwap → List Event → Type 0
GoesWithin s o more = (more ≡ []) ⊎ (commands_in (o.course ++ more) ≤ most_from (lab_in s.lab) o.swap o.leg)

-- HOW A COMMAND LEAVES AN OPEN SWAP, from these open swaps and with these steps of its own: its course is continued by its experiment's own commands
-- among them; or it has begun; or trouble in its course forth began the undo, whose course is empty
pub data Continues (s u : LabState) (opens : List OpenSwap) (own : List Event) (reply : Option Reply) (o : RunningSwap) : Type 0 where
  along : (q : OpenSwap) → Has opens q → (more : List Event) → o ≡ record q.running { course = q.running.course ++ more } → Stays (name_in q) s u
      → ((e : Experiment) → find (name_in q) s.experiments ≡ Some e → own_events (lab_in s.lab) e own ≡ more) → GoesWithin s q.running more → Continues s u opens own reply o
  begun_now : (p : SwapOf) → o ≡ opened_swap p → Moves p u → is_busy (names_of opens) p.name ≡ false
      → (side : Side) (gate : ℕ) (way : Way) → own ≡ added side gate (Begin p.name way) All → Continues s u opens own reply o
  undone : (why : Trouble) (q : OpenSwap) → Has opens q → o ≡ record q.running { leg = Undo why; course = [] } → u ≡ s → q.running.leg ≡ Forth → HasLeg q.running.swap (Undo why) → IsOneCommand own
      → IsCut (plan_in s q.running) why (q.running.course ++ own) → reply ≡ Some (TroubleReply (name_in q) (what_of why)) → Continues s u opens own reply o

one_found : (name : List ℕ) (s : LabState) (e f : Experiment) → find name s.experiments ≡ Some e → find name s.experiments ≡ Some f → e ≡ f
one_found name s e f x y = let same : Some e ≡ Some f = sym x ∙ y in cc same

-- A RECORD of another experiment, or of none
creates_other : (name own : List ℕ) (o : Option Lab) (es : List Experiment) (w : Wiring) (u : LabState) (e : Experiment) → find name es ≡ Some e → moved_of o es (Creates own w) ≡ Some u → own ≢ name
creates_other name own None es w u e found gives same = cc gives
creates_other name own (Some lab) es w u e found gives same =
    let there : find own es ≡ Some e = ap (λ n. find n es) same ∙ found in
    let none : in_state lab (cond (is_none (Some e) && nat_le (length es) 255) (Some (es ++ record { name = own; wiring = w; phase = Out } ∷ [])) None) ≡ Some u = subst (λ o. in_state lab (cond (is_none o && nat_le (length es) 255) (Some (es ++ record { name = own; wiring = w; phase = Out } ∷ [])) None) ≡ Some u) there gives in
    cc none

deletes_other : (name own : List ℕ) (o : Option Lab) (es : List Experiment) (u : LabState) (e : Experiment) → find name es ≡ Some e → is_out e.phase ≡ false → moved_of o es (Deletes own) ≡ Some u → own ≢ name
deletes_other name own None es u e found moves gives same = cc gives
deletes_other name own (Some lab) es u e found moves gives same =
    let there : find own es ≡ Some e = ap (λ n. find n es) same ∙ found in
    let none : in_state lab (cond (is_out e.phase) (Some (others own es)) None) ≡ Some u = subst (λ o. in_state lab (deleted own es o) ≡ Some u) there gives in
    let left : in_state lab (cond false (Some (others own es)) None) ≡ Some u = subst (λ b. in_state lab (cond b (Some (others own es)) None) ≡ Some u) moves none in
    cc left

moves_not_out : (phase : Phase) (old new : Option Mapped) → phase ≡ Moving old new → is_out phase ≡ false
moves_not_out phase old new is = ap is_out is

append_apart : (name : List ℕ) (s : LabState) (set : is_some s.lab ≡ true) (e : Experiment) → find name s.experiments ≡ Some e → is_out e.phase ≡ false → (of : Option (List ℕ)) (entry : Record) (move : Move) (u : LabState) → IsOwn s of entry → Says the_texts s entry move → moved s move ≡ Some u → IsApart name move
append_apart name s set e found moves of (records.Lab ptop) move u own says gives = absurd (cc (sym (ap is_some own) ∙ set))
append_apart name s set e found moves of (records.Create exp top) move u own says gives =
    subst (IsApart name) (sym says.2) (creates_other name exp s.lab s.experiments says.0 u e found (subst (λ (m : Move). moved s m ≡ Some u) says.2 gives))
append_apart name s set e found moves of (records.Create2 exp top) move u own says gives =
    subst (IsApart name) (sym says.2) (creates_other name exp s.lab s.experiments says.0 u e found (subst (λ (m : Move). moved s m ≡ Some u) says.2 gives))
append_apart name s set e found moves of (records.Delete exp) move u own says gives =
    subst (IsApart name) (sym says) (deletes_other name exp s.lab s.experiments u e found moves (subst (λ (m : Move). moved s m ≡ Some u) says gives))
append_apart name s set e found moves of (records.Begin exp way) move u own says gives = absurd own
append_apart name s set e found moves of (records.Commit exp) move u own says gives = absurd own
append_apart name s set e found moves of (records.Abort exp) move u own says gives = absurd own

-- NAMES
pub not_named : (opens : List OpenSwap) (exp : List ℕ) → is_busy (names_of opens) exp ≡ false → (o : OpenSwap) → Has opens o → exp ≢ name_in o
not_named [] exp none o has same = has
not_named (x ∷ opens) exp none o (inl is) same =
    cc (sym ((bytes_eq-Decides (name_in x) exp).1 (ap name_in is ∙ sym same)) ∙ first (bytes_eq (name_in x) exp) _ none)
  where
    first : (a b : Bool) → a || b ≡ false → a ≡ false
    first true b h = absurd (cc h)
    first false b h = refl
not_named (x ∷ opens) exp none o (inr has) same = not_named opens exp (behind (bytes_eq (name_in x) exp) _ none) o has same
  where
    behind : (a b : Bool) → a || b ≡ false → b ≡ false
    behind true b h = absurd (cc h)
    behind false b h = h

pub is_named : (opens : List OpenSwap) (o : OpenSwap) → Has opens o → is_busy (names_of opens) (name_in o) ≡ true
is_named [] o has = absurd has
is_named (x ∷ opens) o (inl is) = subst (λ (y : OpenSwap). bytes_eq (name_in x) (name_in y) || is_busy (names_of opens) (name_in y) ≡ true) is (ap (λ b. b || is_busy (names_of opens) (name_in x)) ((bytes_eq-Decides (name_in x) (name_in x)).1 refl))
is_named (x ∷ opens) o (inr has) = or_true (bytes_eq (name_in x) (name_in o)) _ (is_named opens o has)
  where
    or_true : (a b : Bool) → b ≡ true → a || b ≡ true
    or_true true b h = refl
    or_true false b h = h

-- the others of one of them have other names
pub front_apart : (front : List OpenSwap) (one : OpenSwap) (rest : List OpenSwap) → AllDiffer (names_of (front ++ one ∷ rest)) → (o : OpenSwap) → Has front o ⊎ Has rest o → name_in one ≢ name_in o
front_apart [] one rest differ o (inl none) same = none
front_apart [] one rest differ o (inr has) same = differ.0 (name_in o) (Has-mapped name_in rest o has) same
front_apart (x ∷ front) one rest differ o (inl (inl is)) same =
    differ.0 (name_in one) (Has-mapped name_in (front ++ one ∷ rest) one (Has-right front (one ∷ rest) one (inl refl))) (ap name_in is ∙ sym same)
front_apart (x ∷ front) one rest differ o (inl (inr has)) same = front_apart front one rest differ.1 o (inl has) same
front_apart (x ∷ front) one rest differ o (inr has) same = front_apart front one rest differ.1 o (inr has) same

-- WHAT IS TOLD of a swap, where the session stays open
abbrev pub GoesOn : Outcome → Type 0
GoesOn Unwritten = ⊥
GoesOn Halted = ⊥
GoesOn outcome = Unit {0}

pub same_opens : (a b : List OpenSwap) → Open a ≡ Open b → b ≡ a
same_opens a b is = cc is

pub told_open : (reply : Option Reply) (opens to : List OpenSwap) (outcome : Outcome) (behind : List Event) (after : After) → IsAnswered reply opens outcome behind after → after.session ≡ Open to
    → GoesOn outcome × (behind ≡ []) × (to ≡ opens) × (after.reply ≡ reply)
told_open reply opens to outcome behind after (is_told starts told session) open_now = by outcome starts (sym session ∙ open_now)
  where
    by : (outcome : Outcome) → StartsAfter outcome behind → end_session opens outcome ≡ Open to → GoesOn outcome × (behind ≡ []) × (to ≡ opens) × (after.reply ≡ reply)
    by More starts is = (tt, starts, same_opens opens to is, told)
    by (TurnsBack why) starts is = (tt, starts, same_opens opens to is, told)
    by (Ended leg) starts is = (tt, starts, same_opens opens to is, told)
    by (Stuck trouble) starts is = (tt, starts, same_opens opens to is, told)
    by Unwritten starts is = absurd (cc is)
    by Halted starts is = absurd (cc is)

-- a swap that is over leaves a sane lab, where the session stays open
finished_sane : (u : LabState) (o : RunningSwap) (steps : List Event) (outcome : Outcome) (after : LabState) → Sane u → GoesOn outcome → Finishes u o steps outcome after → Sane after
finished_sane u o steps outcome after sane goes f = by outcome goes f.over f.turn
  where
    by : (outcome : Outcome) → GoesOn outcome → IsOver outcome → TurnSteps u f.at f.behind outcome after → Sane after
    by (Ended leg) goes over turn = follows_sane the_texts u (last f.at.swap leg) after sane (record { move = last_move f.at.swap leg; says = last_says u (commits f.at.swap leg) f.at.swap.name; gives = turn.0.1.moves })
    by (Stuck trouble) goes over turn = subst Sane (sym turn.3) sane
    by More goes over turn = absurd over
    by (TurnsBack why) goes over turn = absurd over
    by Unwritten goes over turn = absurd goes
    by Halted goes over turn = absurd goes

-- A COMMAND with these open swaps, which leaves the session open
module _ (own : List Event) (set : Setting) (s : LabState) (opens : List OpenSwap) (ok : (o : OpenSwap) → Has opens o → Sane s × (is_some s.lab ≡ true)) (moves : (o : OpenSwap) → Has opens o → Moves o.running.swap s)
    (differ : AllDiffer (names_of opens)) (after : After) (to : List OpenSwap) (open_now : after.session ≡ Open to) where
  abbrev pub AllContinue : Type 0
  AllContinue = (o : OpenSwap) → Has to o → Continues s after.lab opens own after.reply o.running

  keep : (o : OpenSwap) (has : Has opens o) → own_events (lab_in s.lab) (moves o has).exp own ≡ [] → Stays (name_in o) s after.lab → Continues s after.lab opens own after.reply o.running
  keep o has quiet stays =
      let m = moves o has in
      along o has [] (ap (λ c. record o.running { course = c }) (sym (append-nil o.running.course))) stays (λ e found. ap (λ x. own_events (lab_in s.lab) x own) (one_found (name_in o) s e m.exp found m.found) ∙ quiet) (inl refl)

  all_keep : to ≡ opens → ((o : OpenSwap) (has : Has opens o) → (own_events (lab_in s.lab) (moves o has).exp own ≡ []) × Stays (name_in o) s after.lab) → AllContinue
  all_keep same each o has = let there = subst (λ l. Has l o) same has in let k = each o there in keep o there k.0 k.1

  same_all : own ≡ [] → after.lab ≡ s → to ≡ opens → AllContinue
  same_all none lab same = all_keep same (λ o has. (calm_quiet (lab_in s.lab) (moves o has).exp own (ap has_command none), same_stays (name_in o) s after.lab (ok o has).1 lab))

  pub replies_continue : (reply : Reply) → Replies s opens reply own after → AllContinue
  replies_continue reply d = same_all d.nothing (ap (λ (x : After). x.lab) d.after_is) (same_opens opens to (sym (ap (λ (x : After). x.session) d.after_is) ∙ open_now))

  if_space : (b : Bool) (Of : Type 0) (n : ℕ) → IfSpace b n s opens Of own after → (Of → AllContinue) → AllContinue
  if_space true Of n d by = by d
  if_space false Of n d by = replies_continue _ d

  append_continue : (of : Option (List ℕ)) (entry : Record) (told : Reply) → IsOwn s of entry → Appends s opens entry told own after → AllContinue
  append_continue of entry told its a = by a.ends
    where
      by : AppendEnds s opens a.state told a.run a.more own after → AllContinue
      by (broken breaks answered which shut) = absurd (cc (sym shut ∙ open_now))
      by (whole all none is) =
          let calm : has_command own ≡ false = ap has_command (a.steps ∙ (λ i. added a.side a.gate entry (all i) ++ none i) ∙ append-nil (added a.side a.gate entry All)) ∙ (append_quiet a.side a.gate entry All).0 in
          all_keep (same_opens opens to (sym (ap (λ (x : After). x.session) is) ∙ open_now))
          (λ o has. let g = moves o has in (
            calm_quiet (lab_in s.lab) g.exp own calm,
            subst (λ u. Stays (name_in o) s u) (sym (ap (λ (x : After). x.lab) is))
                (move_stays (name_in o) s a.state a.move (ok o has).1 (append_apart (name_in o) s (ok o has).1 g.exp g.found (moves_not_out g.exp.phase _ _ g.moving) of entry a.move a.state its a.says a.moves) a.moves),
          ))

  own_is_steps : (steps behind : List Event) → own ≡ steps ++ behind → behind ≡ [] → own ≡ steps
  own_is_steps steps behind is none = is ∙ ap (λ l. steps ++ l) none ∙ append-nil steps

  -- all are as they were, and none of their commands is among the steps
  abbrev pub AllKept : Type 0
  AllKept = (to ≡ opens) × ((o : OpenSwap) (has : Has opens o) → (own_events (lab_in s.lab) (moves o has).exp own ≡ []) × Stays (name_in o) s after.lab × Sane after.lab)

  replies_kept : (reply : Reply) → Replies s opens reply own after → AllKept
  replies_kept reply d =
      let lab = ap (λ (x : After). x.lab) d.after_is in (
        same_opens opens to (sym (ap (λ (x : After). x.session) d.after_is) ∙ open_now),
        λ o has. (calm_quiet (lab_in s.lab) (moves o has).exp own (ap has_command d.nothing), same_stays (name_in o) s after.lab (ok o has).1 lab, subst Sane (sym lab) (ok o has).0),
      )

  swap_kept : (exp : List ℕ) (way : Way) → is_busy (names_of opens) exp ≡ false → Swaps s opens exp (Begin exp way) own after → AllKept
  swap_kept exp way idle w = by w.ends (told_open _ opens to w.outcome w.behind after w.answered open_now)
    where
      by : SwapSteps w.swap s (Begin exp way) w.move w.steps after.lab w.outcome → GoesOn w.outcome × (w.behind ≡ []) × (to ≡ opens) × (after.reply ≡ end_reply w.swap w.outcome) → AllKept
      by (unwritten is told) at = absurd (subst GoesOn told at.0)
      by (halted is told) at = absurd (subst GoesOn told at.0)
      by (begun b) at = (
        at.2,
        λ o has.
            let g = moves o has in
            let other = not_named opens exp idle o has in (
              ap (λ l. own_events (lab_in s.lab) g.exp l) (own_is_steps w.steps w.behind w.own_is at.1)
                  ∙ begun_quiet (name_in o) s (ok o has).0 (ok o has).1 g.exp g.found w.swap exp way w.move w.steps after.lab w.outcome w.name other w.says w.moves b,
              swap_stays (name_in o) w.swap s after.lab (Begin exp way) w.move w.steps w.outcome (ok o has).1 (begins_apart (name_in o) s exp way w.move w.says other) (λ same. other (sym w.name ∙ same)) (begun b),
              finished_sane b.state (opened_swap w.swap) b.behind w.outcome after.lab (follows_sane the_texts s (Begin exp way) b.state (ok o has).0 (record { move = w.move; says = w.says; gives = b.begins.moves })) at.0 b.finishes,
            ),
      )

  swap_continue : (exp : List ℕ) (way : Way) → is_busy (names_of opens) exp ≡ false → Swaps s opens exp (Begin exp way) own after → AllContinue
  swap_continue exp way idle w = let k = swap_kept exp way idle w in all_keep k.0 (λ o has. let each = k.1 o has in (each.0, each.1))

  begin_continue : (exp : List ℕ) (way : Way) → is_busy (names_of opens) exp ≡ false → Begins s opens set.devices exp (Begin exp way) own after → AllContinue
  begin_continue exp way idle w = by w.outcome refl w.begins (told_open _ _ to w.outcome w.behind after w.answered open_now)
    where
      by : (outcome : Outcome) → w.outcome ≡ outcome → BeginSteps s (Begin exp way) w.move w.steps after.lab outcome → GoesOn w.outcome × (w.behind ≡ []) × (to ≡ opens ++ begun_at w.swap set.devices ∷ []) × (after.reply ≡ turn_reply w.swap w.outcome) → AllContinue
      by (TurnsBack why) is none at = absurd none
      by (Ended leg) is none at = absurd none
      by (Stuck trouble) is none at = absurd none
      by Unwritten is part at = absurd (subst GoesOn is at.0)
      by Halted is part at = absurd (subst GoesOn is at.0)
      by More is b at = λ o has. each o (Has-append opens (begun_at w.swap set.devices ∷ []) o (subst (λ l. Has l o) at.2 has))
        where
          calm : has_command own ≡ false
          calm = ap has_command (own_is_steps w.steps w.behind w.own_is at.1 ∙ b.steps_are) ∙ (append_quiet b.side b.gate (Begin exp way) All).0

          all_is : own ≡ added b.side b.gate (Begin exp way) All
          all_is = own_is_steps w.steps w.behind w.own_is at.1 ∙ b.steps_are

          new_one : Continues s after.lab opens own after.reply (opened_swap w.swap)
          new_one =
              begun_now w.swap refl (w.moves after.lab b.moves) (subst (λ n. is_busy (names_of opens) n ≡ false) (sym w.name) idle) b.side b.gate way
              (subst (λ n. own ≡ added b.side b.gate (Begin n way) All) (sym w.name) all_is)

          each : (o : OpenSwap) → Has opens o ⊎ Has (begun_at w.swap set.devices ∷ []) o → Continues s after.lab opens own after.reply o.running
          each o (inl has) =
              let g = moves o has in
              keep o has (calm_quiet (lab_in s.lab) g.exp own calm) (move_stays (name_in o) s after.lab w.move (ok o has).1 (begins_apart (name_in o) s exp way w.move w.says (not_named opens exp idle o has)) b.moves)
          each o (inr (inl same)) = subst (λ (x : OpenSwap). Continues s after.lab opens own after.reply x.running) same new_one
          each o (inr (inr none)) = absurd none

  -- its place among the others
  in_front : (one : OpenSwap) (front rest : List OpenSwap) → opens ≡ front ++ one ∷ rest → (o : OpenSwap) → Has front o ⊎ Has rest o → Has opens o
  in_front one front rest are o (inl has) = subst (λ l. Has l o) (sym are) (Has-left front (one ∷ rest) o has)
  in_front one front rest are o (inr has) = subst (λ l. Has l o) (sym are) (Has-right front (one ∷ rest) o (inr has))

  one_in : (one : OpenSwap) (front rest : List OpenSwap) → opens ≡ front ++ one ∷ rest → Has opens one
  one_in one front rest are = subst (λ l. Has l one) (sym are) (Has-right front (one ∷ rest) one (inl refl))

  turn_continue : (exp : List ℕ) → Turns s opens exp own after → AllContinue
  turn_continue exp d = λ o has. each o (placed o (subst (λ l. Has l o) at.2 has))
    where
      at : GoesOn d.outcome × (d.behind ≡ []) × (to ≡ d.one.front ++ (turned_on d.one.swap d.steps d.outcome ++ d.one.rest)) × (after.reply ≡ turn_reply d.one.swap.running.swap d.outcome)
      at = told_open _ _ to d.outcome d.behind after d.answered open_now

      own_is : own ≡ d.steps
      own_is = own_is_steps d.steps d.behind d.own_is at.1

      its : Has opens d.one.swap
      its = one_in d.one.swap d.one.front d.one.rest d.one.are

      -- it went on
      on : d.outcome ≡ More → Continues s after.lab opens own after.reply (record d.one.swap.running { course = d.one.swap.running.course ++ d.steps })
      on is =
          let turn : TurnSteps s d.one.swap.running d.steps More after.lab = subst (λ x. TurnSteps s d.one.swap.running d.steps x after.lab) is d.turn in
          let e = d.moves.exp in
          let mine = own_behind (lab_in s.lab) e d.one.swap.running.course d.steps (turn_own s e d.one.swap.running d.moves.moving d.steps More after.lab turn) in
          let sends = all_its (lab_in s.lab) e d.steps (only_last d.one.swap.running.course d.steps (only_sent (plan_in s d.one.swap.running) turn.1.0 _ turn.1.1)) mine in
          along d.one.swap its d.steps refl (same_stays (name_in d.one.swap) s after.lab (ok d.one.swap its).1 turn.2) (λ f found.
          ap (λ x. own_events (lab_in s.lab) x own) (one_found (name_in d.one.swap) s f e found d.moves.found) ∙ ap (λ l. own_events (lab_in s.lab) e l) own_is ∙ sends)
          (inr (omega (arith, commands_both d.one.swap.running.course d.steps, open_few s d.one.swap.running d.steps More after.lab turn)))

      -- it turned back
      back : (why : Trouble) → d.outcome ≡ TurnsBack why → Continues s after.lab opens own after.reply (record d.one.swap.running { leg = Undo why; course = [] })
      back why is =
          let turn : TurnSteps s d.one.swap.running d.steps (TurnsBack why) after.lab = subst (λ x. TurnSteps s d.one.swap.running d.steps x after.lab) is d.turn in
          undone why d.one.swap its refl turn.4 turn.2 turn.3 (subst IsOneCommand (sym own_is) turn.0) (subst (λ l. IsCut (plan_in s d.one.swap.running) why (d.one.swap.running.course ++ l)) (sym own_is) turn.1)
          (at.3 ∙ ap (λ x. turn_reply d.one.swap.running.swap x) is)

      turned : (outcome : Outcome) → d.outcome ≡ outcome → (o : OpenSwap) → Has (turned_on d.one.swap d.steps outcome) o → Continues s after.lab opens own after.reply o.running
      turned More is o (inl same) = subst (λ (x : OpenSwap). Continues s after.lab opens own after.reply x.running) same (on is)
      turned More is o (inr none) = absurd none
      turned (TurnsBack why) is o (inl same) = subst (λ (x : OpenSwap). Continues s after.lab opens own after.reply x.running) same (back why is)
      turned (TurnsBack why) is o (inr none) = absurd none
      turned (Ended leg) is o has = absurd has
      turned (Stuck trouble) is o has = absurd has
      turned Unwritten is o has = absurd has
      turned Halted is o has = absurd has

      placed : (o : OpenSwap) → Has (d.one.front ++ (turned_on d.one.swap d.steps d.outcome ++ d.one.rest)) o → (Has d.one.front o ⊎ Has d.one.rest o) ⊎ Has (turned_on d.one.swap d.steps d.outcome) o
      placed o has = elim (Has-append d.one.front _ o has) [
        | inl a ↦ inl (inl a)
        | inr b ↦ elim (Has-append (turned_on d.one.swap d.steps d.outcome) d.one.rest o b) [ inl x ↦ inr x | inr y ↦ inl (inr y) ]
      ]

      each : (o : OpenSwap) → (Has d.one.front o ⊎ Has d.one.rest o) ⊎ Has (turned_on d.one.swap d.steps d.outcome) o → Continues s after.lab opens own after.reply o.running
      each o (inl beside) =
          let has = in_front d.one.swap d.one.front d.one.rest d.one.are o beside in
          let k = moves o has in
          let other = front_apart d.one.front d.one.swap d.one.rest (subst (λ l. AllDiffer (names_of l)) d.one.are differ) o beside in
          keep o has
          (ap (λ l. own_events (lab_in s.lab) k.exp l) own_is ∙ turn_quiet (name_in o) s (ok o has).0 k.exp k.found d.one.swap.running d.steps d.outcome after.lab d.moves other d.turn)
          (turned_stays (name_in o) s after.lab d.one.swap.running d.steps d.outcome (ok o has).1 other d.turn)
      each o (inr there) = turned d.outcome refl o there

  finish_continue : (exp : List ℕ) → EndsSwap s opens exp own after → AllContinue
  finish_continue exp d = λ o has. each o (Has-append d.one.front d.one.rest o (subst (λ l. Has l o) at.2 has))
    where
      at : GoesOn d.outcome × (d.behind ≡ []) × (to ≡ d.one.front ++ d.one.rest) × (after.reply ≡ end_reply d.one.swap.running.swap d.outcome)
      at = told_open _ _ to d.outcome d.behind after d.answered open_now

      each : (o : OpenSwap) → Has d.one.front o ⊎ Has d.one.rest o → Continues s after.lab opens own after.reply o.running
      each o beside =
          let has = in_front d.one.swap d.one.front d.one.rest d.one.are o beside in
          let k = moves o has in
          let other = front_apart d.one.front d.one.swap d.one.rest (subst (λ l. AllDiffer (names_of l)) d.one.are differ) o beside in
          keep o has
          (ap (λ l. own_events (lab_in s.lab) k.exp l) (own_is_steps d.steps d.behind d.own_is at.1) ∙ finish_quiet (name_in o) s (ok o has).0 k.exp k.found d.one.swap.running d.steps d.outcome after.lab d.moves.exp d.moves.found d.moves.moving other d.finishes)
          (ended_stays (name_in o) s after.lab d.one.swap.running d.steps d.outcome (ok o has).1 other d.finishes)

  recover_continue : Recovers s opens own after → AllContinue
  recover_continue (broken_off part breaks shut) = absurd (cc (sym shut ∙ open_now))
  recover_continue (settled outcomes settles told session) = all_keep (same_opens opens to (sym session ∙ open_now)) (λ o has.
      let g = moves o has in
      let sane = (ok o has).0 in
      let busy = is_named opens o has in (
        settles_quiet (name_in o) g.exp _ outcomes s own after.lab sane (ok o has).1 g.found (due_move (names_of opens) s sane) (due_apart (names_of opens) s.experiments sane.names) (busy_apart (name_in o) (names_of opens) s.experiments busy) settles,
        settled_stay (name_in o) (names_of opens) outcomes s after.lab own (ok o has).1 (inl busy) settles,
      ))

  idle_of : (command : Command) (exp : List ℕ) → name_of command ≡ Some exp → is_among (names_of opens) (name_of command) ≡ false → is_busy (names_of opens) exp ≡ false
  idle_of command exp named idle = subst (λ n. is_among (names_of opens) n ≡ false) named idle

  kept_space : (b : Bool) (Of : Type 0) (n : ℕ) → IfSpace b n s opens Of own after → (Of → AllKept) → AllKept
  kept_space true Of n d by = by d
  kept_space false Of n d by = replies_kept _ d

  -- a refusal, what only tells, or a swap
  pub does_keep : (command : Command) (j : Result Task Reply) → IsFit s command (is_among (names_of opens) (name_of command)) (length opens) j → IsPlain j → Does set s opens j own after → AllKept
  does_keep command (Err refusal) fit one d = replies_kept refusal d
  does_keep command (Ok (Tell told)) fit one d = replies_kept told d
  does_keep command (Ok (Swap exp way)) fit one d = kept_space (has_space set (Begin exp way)) (Swaps s opens exp (Begin exp way) own after) set.length d (swap_kept exp way (idle_of command exp fit.0 fit.1))
  does_keep command (Ok task) fit one d = absurd one

  does_continue : (command : Command) (j : Result Task Reply) → IsFit s command (is_among (names_of opens) (name_of command)) (length opens) j → Does set s opens j own after → AllContinue
  does_continue command (Err refusal) fit d = replies_continue refusal d
  does_continue command (Ok (Tell told)) fit d = replies_continue told d
  does_continue command (Ok (Append entry told)) fit d = if_space (has_space set entry) (Appends s opens entry told own after) set.length d (append_continue (name_of command) entry told fit.1)
  does_continue command (Ok (Swap exp way)) fit d = if_space (has_space set (Begin exp way)) (Swaps s opens exp (Begin exp way) own after) set.length d (swap_continue exp way (idle_of command exp fit.0 fit.1))
  does_continue command (Ok (BeginOnly exp way)) fit d = if_space (has_space set (Begin exp way)) (Begins s opens set.devices exp (Begin exp way) own after) set.length d (begin_continue exp way (idle_of command exp fit.0 fit.1))
  does_continue command (Ok (Turn exp)) fit d = turn_continue exp d
  does_continue command (Ok (Finish exp)) fit d = finish_continue exp d
  does_continue command (Ok Recover) fit d = recover_continue d

  pub done_continue : (rule : RuleNumber) (command : Command) → IsDoneBy (JudgedBeside rule command opens s) set s opens own after → AllContinue
  done_continue rule command (does j judged d) = does_continue command j (fits s (is_among (names_of opens) (name_of command)) (length opens) rule command j judged) d
  done_continue rule command (no_memory wants) = absurd (cc (sym (ap (λ (x : After). x.session) wants.after_is) ∙ open_now))
