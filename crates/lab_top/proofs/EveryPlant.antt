-- A run over every plant, whether it tells its past or not: the lab of the session along it.
use Rattle.std.proofs.Common.{◌≡◌, ◌⊎◌, inl, inr, ⊎_elim, ℕ, ◌^◌, Bool, false, List, [], ◌∷◌, ◌++◌, length, arith, Option, Some, None, Result, refl, sym, ◌∙◌, ap, subst}
use Rattle.std.specs.Prelude.{is_some, ◌≤◌, IfSome}
use Rattle.lab_base.specs.Lists.{AllDiffer}
use Rattle.plant.specs.Events.{Event}
use Rattle.plant.specs.declared.drill.Drill.{Drill}
use Rattle.plant.specs.declared.moment.Faults.{Faults}
use Rattle.records_model.specs.Labs.{LabState}
use Rattle.script_text.specs.Drills.{drill_of}
use Rattle.script_text.specs.declared.command.Command.{Command}
use Rattle.script_text.specs.declared.command.Command.TheVariants.{SwapinWith}
use Rattle.script_text.specs.declared.reply.Reply.{Reply}
use Rattle.script_text.specs.declared.reply.Reply.TheVariants as replies
use Rattle.lab_tasks.specs.Tasks.{Task}
use Rattle.lab_core.specs.Commands.{LabStep, is_about}
use Rattle.lab_core.specs.Moments.{trace_in, with_more}
use Rattle.lab_core.specs.Sessions.{OpenSwap, Session, Closed, Open, Setting, After, names_of, open_at, Terms}
use Rattle.lab_core.specs.Tells.{AllMove, Hinders, IsFeasibleFor, TellsBroken, busy_of, is_of_drill, opens_of, taken_reply}
use Rattle.lab_core.proofs.ListSteps.{about_not, all_leave, all_move, all_no_drill}
use Rattle.lab_core.proofs.OpenLaws.{Leaves, names_differ, others_as_they_were, they_are_few}
use Rattle.lab_core.proofs.SolutionLaws.{in_open}
use Rattle.lab_top.specs.Pieces.{Piece, Begun, AreHandedOn, AreOthers, ButForReply, Counts, GoesFrom, Held, HandLabsOn, NotOpened, OwnStep, StayOpen, is_closed, held_after, held_from, lab_behind, session_after, stays_open, steps_of, traces_after}
use Rattle.lab_top.specs.Ran.{Outside, Ran, after_in, from_in, held_in}
use Rattle.lab_top.specs.declared.status.Status.{Status}
use Rattle.lab_words.specs.Words.{Choices}
use Rattle.lab_top.proofs.RunLaws.{caused_at}
use Rattle.lab_top.proofs.TurnLaws.{handed_after, sessions_join}
use Rattle.lab_core.proofs.OuterReplies.{of_drill_if}

-- ONE PIECE
module _ (terms : Terms) (trace : Option (List Event)) (piece : Piece) (at : Held) (last : LabState) (shut : stays_open piece.reply ≡ false → piece.to ≡ Closed) where
  abbrev after_of : OwnStep terms trace piece at last → After
  after_of x = record { reply = x.told; lab = last; session = x.session }

  abbrev set_of : OwnStep terms trace piece at last → Setting
  set_of x = record { length = at.length; limit = 2 ^ 32; devices = piece.faults.devices }

  -- one that is answered has that reply and that session
  pub told_to : (x : OwnStep terms trace piece at last) (reply : Reply) → piece.reply ≡ Some reply → (x.told ≡ Some reply) × (x.session ≡ piece.to)
  told_to x reply is = let so = subst (λ (o : Option Reply). ButForReply o piece.to x.told x.session x.behind) is x.is_told in (so.0, so.1)

  module _ (goes : GoesFrom (drill_of piece.command) terms trace piece at last) (open_now : is_closed piece.to ≡ false) where
    replied : (reply : Option Reply) → piece.reply ≡ reply → (r : Reply) × (piece.reply ≡ Some r)
    replied (Some r) is = (r, is)
    replied None is = absurd (cc (ap is_closed (shut (ap stays_open is)), open_now))

    there : (r : Reply) × (piece.reply ≡ Some r)
    there = replied piece.reply refl

    abbrev Left : Type 0
    Left = (opens_of piece.to ≡ opens_of piece.from) ⊎ ((to : List OpenSwap) × (piece.to ≡ Open to) × (set : Setting) × (judgement : Result Task Reply) × Leaves set (Open (opens_of piece.from)) piece.command judgement to)

    step_left : (x : OwnStep terms trace piece at last) (to : Session) → piece.to ≡ to → is_closed to ≡ false → Left
    step_left x Closed is open_to = absurd (cc open_to)
    step_left x (Open to) is open_to =
        ⊎_elim (λ same. inl (ap opens_of is ∙ same)) (λ one. inr (to, is, set_of x, one.0, one.1))
        (all_leave terms trace (set_of x) at.lab (Open (opens_of piece.from)) [] (piece.own ++ x.behind) (after_of x) piece.command to ((told_to x there.0 there.1).1 ∙ is) x.step)

    left : Left
    left = by (drill_of piece.command) goes
      where
        by : (drill : Option Drill) → GoesFrom drill terms trace piece at last → Left
        by (Some drill) kept = inl (ap opens_of (kept.1 (ap is_some there.1)))
        by None (inl x) = step_left x piece.to refl open_now
        by None (inr broke) = absurd (cc (ap is_closed broke.shut, open_now))

    pub swap_stays_ever : (name : List ℕ) → is_about piece.command name ≡ false → open_at name (opens_of piece.to) ≡ open_at name (opens_of piece.from)
    swap_stays_ever name other =
        ⊎_elim (λ same. ap (open_at name) same)
        (λ x. ap (λ s. open_at name (opens_of s)) x.1 ∙ others_as_they_were x.2 (Open (opens_of piece.from)) piece.command x.3 x.0 name (about_not piece.command name other) x.4) left

    pub are_few_ever : length (opens_of piece.from) ≤ 16 → length (opens_of piece.to) ≤ 16
    are_few_ever few = ⊎_elim (λ same. subst (λ l. length l ≤ 16) (sym same) few) (λ x. subst (λ s. length (opens_of s) ≤ 16) (sym x.1) (they_are_few x.2 (Open (opens_of piece.from)) piece.command x.3 x.0 few x.4)) left

    pub they_differ_ever : AllDiffer (busy_of piece.from) → AllDiffer (busy_of piece.to)
    they_differ_ever differ =
        ⊎_elim (λ same. subst (λ l. AllDiffer (names_of l)) (sym same) differ) (λ x. subst (λ s. AllDiffer (busy_of s)) (sym x.1) (names_differ x.2 (Open (opens_of piece.from)) piece.command x.3 x.0 differ x.4)) left

    -- the experiment of each open swap moves in the lab
    step_moves_ever : (x : OwnStep terms trace piece at last) (to : Session) → piece.to ≡ to → is_closed to ≡ false → AllDiffer (busy_of piece.from) → AllMove (opens_of piece.from) at.lab → AllMove (opens_of piece.to) last
    step_moves_ever x Closed is open_to differ all = absurd (cc open_to)
    step_moves_ever x (Open to) is open_to differ all =
        subst (λ s. AllMove (opens_of s) last) (sym is)
        (all_move terms trace (set_of x) at.lab (Open (opens_of piece.from)) [] (piece.own ++ x.behind) (after_of x) piece.command to ((told_to x there.0 there.1).1 ∙ is) x.sane.none differ all x.step)

    pub they_move_ever : AllDiffer (busy_of piece.from) → AllMove (opens_of piece.from) at.lab → AllMove (opens_of piece.to) last
    they_move_ever differ all = by (drill_of piece.command) goes
      where
        by : (drill : Option Drill) → GoesFrom drill terms trace piece at last → AllMove (opens_of piece.to) last
        by (Some drill) kept = subst (λ s. AllMove (opens_of s) last) (sym (kept.1 (ap is_some there.1))) (subst (λ u. AllMove (opens_of piece.from) u) (sym kept.0) all)
        by None (inl x) = step_moves_ever x piece.to refl open_now differ all
        by None (inr broke) = absurd (cc (ap is_closed broke.shut, open_now))

-- ALONG A RUN
-- what holds of the session and its lab
pub record HoldsOf (session : Session) (s : LabState) : Type 0 where
  pub few : length (opens_of session) ≤ 16
  pub differ : AllDiffer (busy_of session)
  pub all : AllMove (opens_of session) s

-- a piece between two labs, with what holds where it begins
pub record At (terms : Terms) (trace : Option (List Event)) (b : Begun) (at : Held) (last : LabState) : Type 0 where
  pub goes : GoesFrom (drill_of b.piece.command) terms (with_more trace b.piece.opening) b.piece at last
  pub holds : HoldsOf b.piece.from at.lab

closed_holds : (session : Session) (s : LabState) → session ≡ Closed → HoldsOf session s
closed_holds session s is = subst (λ x. HoldsOf x s) (sym is) (record { few = omega arith; differ = tt; all = λ o has. absurd has })

-- from the session that is handed on
from_holds : (session from : Session) (s at : Held) → from ≡ session → (is_closed from ≡ false → at ≡ s) → HoldsOf session s.lab → HoldsOf from at.lab
from_holds session Closed s at is same h = closed_holds Closed at.lab refl
from_holds session (Open opens) s at is same h = subst (λ (u : Held). HoldsOf (Open opens) u.lab) (sym (same refl)) (subst (λ x. HoldsOf x s.lab) (sym is) h)

next_holds : (terms : Terms) (trace : Option (List Event)) (piece : Piece) (at : Held) (last : LabState) → (stays_open piece.reply ≡ false → piece.to ≡ Closed) → GoesFrom (drill_of piece.command) terms trace piece at last → HoldsOf piece.from at.lab → HoldsOf piece.to last
next_holds terms trace piece at last shut goes h = by piece.to refl
  where
    by : (to : Session) → piece.to ≡ to → HoldsOf piece.to last
    by Closed is = closed_holds piece.to last is
    by (Open opens) is =
        let open_now : is_closed piece.to ≡ false = ap is_closed is in
        record {
          few = are_few_ever terms trace piece at last shut goes open_now h.few;
          differ = they_differ_ever terms trace piece at last shut goes open_now h.differ;
          all = they_move_ever terms trace piece at last shut goes open_now h.differ h.all;
        }

walk : (terms : Terms) (entry exit : Faults) (trace : Option (List Event)) (s end : Held) (session : Session) (before after : List Begun) (b : Begun) (labs : HandLabsOn terms trace s (before ++ b ∷ after) end)
    → Counts terms entry (before ++ b ∷ after) exit → AreHandedOn session (before ++ b ∷ after) → HoldsOf session s.lab
    → At terms (traces_after trace before) b (held_from terms trace s end before after b labs) (lab_behind terms trace s end before after b labs)
walk terms entry exit trace s end session [] after b labs counts handed h =
    record { goes = labs.3; holds = from_holds session b.piece.from s labs.0 handed.0 labs.2 h }
walk terms entry exit trace s end session (x ∷ before) after b labs counts handed h =
    walk terms x.later exit (with_more trace (steps_of x.piece)) (held_after x.piece labs.0 labs.1) end x.piece.to before after b labs.4 counts.2 handed.1
    (next_holds terms (with_more trace x.piece.opening) x.piece labs.0 labs.1 counts.1.shut labs.3 (from_holds session x.piece.from s labs.0 handed.0 labs.2 h))

-- after some of them
walk_after : (terms : Terms) (entry exit : Faults) (trace : Option (List Event)) (s end : Held) (session : Session) (before after : List Begun) → HandLabsOn terms trace s (before ++ after) end → Counts terms entry (before ++ after) exit
    → AreHandedOn session (before ++ after) → HoldsOf session s.lab → (u : LabState) × HoldsOf (session_after session before) u
walk_after terms entry exit trace s end session [] after labs counts handed h = (s.lab, h)
walk_after terms entry exit trace s end session (x ∷ before) after labs counts handed h =
    walk_after terms x.later exit (with_more trace (steps_of x.piece)) (held_after x.piece labs.0 labs.1) end x.piece.to before after labs.4 counts.2 handed.1
    (next_holds terms (with_more trace x.piece.opening) x.piece labs.0 labs.1 counts.1.shut labs.3 (from_holds session x.piece.from s labs.0 handed.0 labs.2 h))

-- an open swap of another name
swaps_ever : (terms : Terms) (entry exit : Faults) (trace : Option (List Event)) (s end : Held) (session : Session) (middle after : List Begun) (name : List ℕ) → HandLabsOn terms trace s (middle ++ after) end → Counts terms entry (middle ++ after) exit
    → AreHandedOn session (middle ++ after) → StayOpen middle → AreOthers name middle → open_at name (opens_of (session_after session middle)) ≡ open_at name (opens_of session)
swaps_ever terms entry exit trace s end session [] after name labs counts handed open_now others = refl
swaps_ever terms entry exit trace s end session (b ∷ middle) after name labs counts handed open_now others =
    swaps_ever terms b.later exit (with_more trace (steps_of b.piece)) (held_after b.piece labs.0 labs.1) end b.piece.to middle after name labs.4 counts.2 handed.1 open_now.1 others.1
    ∙ swap_stays_ever terms (with_more trace b.piece.opening) b.piece labs.0 labs.1 counts.1.shut labs.3 open_now.0 name others.0 ∙ ap (λ s. open_at name (opens_of s)) handed.0

labs_after : (terms : Terms) (trace : Option (List Event)) (s end : Held) (before rest : List Begun) → HandLabsOn terms trace s (before ++ rest) end → (t : Option (List Event)) × (u : Held) × HandLabsOn terms t u rest end
labs_after terms trace s end [] rest labs = (trace, s, labs)
labs_after terms trace s end (b ∷ before) rest labs = labs_after terms (with_more trace (steps_of b.piece)) (held_after b.piece labs.0 labs.1) end before rest labs.4

counts_behind : (terms : Terms) (entry exit : Faults) (before rest : List Begun) → Counts terms entry (before ++ rest) exit → (mid : Faults) × Counts terms mid rest exit
counts_behind terms entry exit [] rest counts = (entry, counts)
counts_behind terms entry exit (b ∷ before) rest counts = counts_behind terms b.later exit before rest counts.2

-- IN A RUN
module _ (terms : Terms) (choices : Option Choices) (old new : Outside) (status : Status) where
  pub at_one : (before after : List Begun) (b : Begun) (r : Ran terms choices old new status (before ++ b ∷ after)) → At terms (traces_after (trace_in old.plant.told) before) b (held_in before after b r) (after_in before after b r)
  at_one before after b r = walk terms _ _ _ r.labs.0 r.labs.1 Closed before after b r.labs.2 r.counts r.sessions (closed_holds Closed r.labs.0.lab refl)

  pub few_ever : (before after : List Begun) → Ran terms choices old new status (before ++ after) → (length (opens_of (session_after Closed before)) ≤ 16) × AllDiffer (busy_of (session_after Closed before))
  few_ever before after r = let h = walk_after terms _ _ _ r.labs.0 r.labs.1 Closed before after r.labs.2 r.counts r.sessions (closed_holds Closed r.labs.0.lab refl) in (h.1.few, h.1.differ)

  pub kept_ever : (before middle after : List Begun) (name : List ℕ) → Ran terms choices old new status (before ++ (middle ++ after)) → StayOpen middle → AreOthers name middle
      → open_at name (opens_of (session_after Closed (before ++ middle))) ≡ open_at name (opens_of (session_after Closed before))
  kept_ever before middle after name r open_now others =
      let l = labs_after terms _ r.labs.0 r.labs.1 before (middle ++ after) r.labs.2 in
      let n = counts_behind terms _ _ before (middle ++ after) r.counts in
      ap (λ s. open_at name (opens_of s)) (sessions_join Closed before middle)
      ∙ swaps_ever terms n.0 _ l.0 l.1 r.labs.1 (session_after Closed before) middle after name l.2 n.1 (handed_after Closed before (middle ++ after) r.sessions) open_now others

  module _ (before after : List Begun) (b : Begun) (r : Ran terms choices old new status (before ++ b ∷ after)) (no_drill : drill_of b.piece.command ≡ None) where
    abbrev at : Held
    at = held_in before after b r

    abbrev mid : LabState
    mid = from_in before after b r

    abbrev last : LabState
    last = after_in before after b r

    abbrev trace : Option (List Event)
    trace = with_more (traces_after (trace_in old.plant.told) before) b.piece.opening

    here : At terms (traces_after (trace_in old.plant.told) before) b at last
    here = at_one before after b r

    -- its own part is a lab step, or the opening broke off
    pub own_ever : NotOpened b.piece ⊎ (OwnStep terms trace b.piece at last × AllMove (opens_of b.piece.from) mid)
    own_ever = ⊎_elim (λ x. inr (x, here.holds.all)) (λ broke. inl broke) (subst (λ (d : Option Drill). GoesFrom d terms trace b.piece at last) no_drill here.goes)

    module _ (reply : Reply) (is : b.piece.reply ≡ Some reply) where
      abbrev told_here : OwnStep terms trace b.piece at last → Type 0
      told_here x = x.told ≡ Some reply

      told_ever : (x : OwnStep terms trace b.piece at last) → told_here x
      told_ever x = (told_to terms trace b.piece at last (caused_at terms _ _ before after b r.counts).shut x reply is).0

      abbrev set_here : OwnStep terms trace b.piece at last → Setting
      set_here x = record { length = at.length; limit = 2 ^ 32; devices = b.piece.faults.devices }

      abbrev ends_here : OwnStep terms trace b.piece at last → After
      ends_here x = record { reply = x.told; lab = last; session = x.session }

      no_drill_broken : (told : Reply) → TellsBroken told → is_of_drill told ≡ false
      no_drill_broken replies.Down broke = refl
      no_drill_broken replies.Stopped broke = refl
      no_drill_broken told broke = absurd broke

      pub undrilled_ever : is_of_drill reply ≡ false
      undrilled_ever =
          ⊎_elim (λ broke. no_drill_broken reply (subst (λ (o : Option Reply). IfSome o TellsBroken) is broke.tells))
          (λ x. ap of_drill_if (sym (told_ever x.0)) ∙ all_no_drill terms trace (set_here x.0) mid (Open (opens_of b.piece.from)) b.piece.command [] (b.piece.own ++ x.0.behind) (ends_here x.0) no_drill x.0.step)
          own_ever

      -- a supplied solution
      pub solved_ever : (only : Bool) (exp text : List ℕ) (lines : ℕ) → b.piece.command ≡ SwapinWith only exp lines text
          → NotOpened b.piece ⊎ ((reply ≡ taken_reply only exp → IsFeasibleFor mid exp text) × (IsFeasibleFor mid exp text → (reply ≡ taken_reply only exp) ⊎ Hinders reply))
      solved_ever only exp text lines asks =
          ⊎_elim (λ broke. inl broke)
          (λ x.
          let own = b.piece.own ++ x.0.behind in
          let step = subst (λ (c : Command). LabStep terms trace (set_here x.0) mid (Open (opens_of b.piece.from)) c [] own (ends_here x.0)) asks x.0.step in
          inr (in_open terms (set_here x.0) mid (opens_of b.piece.from) only exp text lines own (ends_here x.0) reply step (told_ever x.0) x.1))
          own_ever
