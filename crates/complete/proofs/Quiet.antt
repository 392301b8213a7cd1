-- One command among whatever happened before it and after it: where nothing disturbs it, it is whole.
use Rattle.std.specs.Prelude.{◌==◌, not, is_some}
use Rattle.std.proofs.Common.{◌≡◌, ◌⊎◌, ⊎_elim, inl, inr, ℕ, eqb-true, Bool, true, false, List, [], ◌∷◌, ◌++◌, append_assoc, Option, Some, None, refl, sym, ◌∙◌, ap, subst}
use Rattle.std.proofs.lemmas.List.{append-nil}
use Rattle.std.proofs.lemmas.Bool.{not-false}
use Rattle.lab_base.specs.Lists.{Has}
use Rattle.plant.specs.Told.{Told}
use Rattle.records_model.specs.Labs.{LabState}
use Rattle.records_model.specs.Works.{IsSound}
use Rattle.swap_turns.specs.Running.{OpenSwap as RunningSwap}
use Rattle.swap_turns.specs.Turning.{plan_in}
use Rattle.lab_state.specs.Texts.{the_texts}
use Rattle.script_text.specs.Drills.{drill_of}
use Rattle.script_text.specs.declared.command.Command.TheVariants.{Recover, SwapinWith}
use Rattle.script_text.specs.declared.reply.Reply.{Reply}
use Rattle.script_text.specs.declared.reply.Reply.TheVariants as replies
use Rattle.lab_core.specs.Sessions.{Session, Closed, Terms}
use Rattle.lab_core.specs.Tells.{AllMove, BeginsAt, IsFeasibleFor, Hinders, IsTurnOf, TellsBroken, busy_of, opens_of, taken_reply}
use Rattle.lab_top.specs.declared.status.Status.{Status}
use Rattle.lab_top.specs.Pieces.{AreHandedOn, Begun, AllRestBut, FirstLab, is_early, session_after, steps_of, trace_after}
use Rattle.lab_top.specs.Ran.{Outside, Ran}
use Rattle.lab_words.specs.Words.{Choices}
use Rattle.lab_top.proofs.RunLaws.{done, opened_rests, recovered_rests, swapped_in}
use Rattle.complete.specs.Booted.{GoesWell}
use Rattle.complete.specs.Complete.{IsUncut, is_cut}
use Rattle.complete.specs.Quiet.{IsUndisturbed, LacksRoom}
use Rattle.complete.proofs.GoingWell.{IsSafe, settles_well, uncut, well_after}
use Rattle.complete.proofs.RunCourses.{at_open}
use Rattle.complete.proofs.Runs.{piece_uncut}
use Rattle.complete.proofs.WholeRuns.{course_of}

-- an open swap whose own commands go well isn't cut by further ones that do
own_safe : (s : LabState) (o : RunningSwap) → IsSafe o.course s o
own_safe s o trouble steps more cut well = uncut (plan_in s o) trouble (o.course ++ steps) more cut (subst GoesWell (sym (append_assoc o.course steps more)) well)

-- a reply that cuts no course hinders for want of room alone
room_only : (reply : Reply) → is_cut reply ≡ false → Hinders reply → LacksRoom reply
room_only replies.FullSwaps calm hinders = tt
room_only (replies.FullJournal length) calm hinders = tt
room_only (replies.Failed exp end what) calm hinders = absurd (cc calm)
room_only replies.Down calm hinders = absurd (cc calm)
room_only replies.Stopped calm hinders = absurd (cc calm)
room_only reply calm hinders = absurd hinders

not_broken : (reply : Reply) → is_cut reply ≡ false → TellsBroken reply → ⊥
not_broken replies.Down calm broken = cc calm
not_broken replies.Stopped calm broken = cc calm
not_broken reply calm broken = broken

none_stuck : (stuck : ℕ) → not (stuck == 0) ≡ false → stuck ≡ 0
none_stuck stuck is = eqb-true stuck 0 (not-false (stuck == 0) is)

-- the session that a command finds
handed_to : (session : Session) (before after : List Begun) (b : Begun) → AreHandedOn session (before ++ b ∷ after) → b.piece.from ≡ session_after session before
handed_to session [] after b handed = handed.0
handed_to session (x ∷ before) after b handed = handed_to x.piece.to before after b handed.1

module _ (terms : Terms) (choices : Option Choices) (old new : Outside) (status : Status) (before after : List Begun) (b : Begun) (t : Told) (ran : Ran terms choices old new status (before ++ b ∷ after)) (told : old.plant.told ≡ Some t) (sound : IsSound the_texts t.trace) where
  -- A COMMAND THAT NOTHING DISTURBS cuts no course, nor does its opening
  pub whole_one : IsUndisturbed b.piece → IsUncut (trace_after t.trace before) b.piece
  whole_one un =
      piece_uncut terms (trace_after t.trace before) b.piece [] (subst GoesWell (sym (append-nil (steps_of b.piece))) un.steps) (done terms choices old new status before after b t ran told sound)
      (λ s first o has turns.
      let its = un.turned o has turns in
      record {
        forth = its.0;
        past = o.running.course;
        well = subst (λ l. GoesWell (o.running.course ++ l)) (sym (append-nil b.piece.own)) its.1;
        safe = λ moves. own_safe s o.running;
      })

  -- AFTER AN OPENING in which nothing goes wrong none moves
  pub opening_rests : drill_of b.piece.command ≡ None → b.piece.from ≡ Closed → (is_some b.piece.reply ≡ true) ⊎ (b.piece.own ≡ [] → ⊥) → GoesWell b.piece.opening → AllRestBut [] (trace_after t.trace before ++ b.piece.opening)
  opening_rests no_drill closed went_on well =
      let r = opened_rests terms choices old new status before after b t ran told sound (record { no_drill = no_drill; closed = closed; no_miss = well.no_miss; no_restart = well.no_restart; went_on = went_on }) in
      let opens = r.2.opens in
      r.3 (settles_well r.0 _ opens.outcomes opens.moving opens.shifting r.1 opens.settles (well_after opens.reading (opens.moving ++ opens.shifting) (subst GoesWell opens.is well)))

  -- a command that turns no swap, by its steps alone
  alone : ((exp : List ℕ) → IsTurnOf exp b.piece.command → ⊥) → GoesWell (steps_of b.piece) → IsUncut (trace_after t.trace before) b.piece
  alone turns well = whole_one (record { steps = well; turned = λ o has is. absurd (turns (o.running.swap.name) is) })

  -- AFTER A `recover` in which nothing goes wrong none is stuck, and none moves but those with an open swap
  pub recover_rests : (number stuck : ℕ) → b.piece.command ≡ Recover → b.piece.reply ≡ Some (replies.Recovered number stuck) → GoesWell (steps_of b.piece)
      → (stuck ≡ 0) × AllRestBut (busy_of b.piece.from) (trace_after t.trace (before ++ b ∷ []))
  recover_rests number stuck asks replied well =
      let whole = alone (λ exp turns. ⊎_elim (λ is. cc (sym asks ∙ is)) (λ is. cc (sym asks ∙ is)) turns) well in
      let none = none_stuck stuck (whole.reply (replies.Recovered number stuck) replied) in
      (none, recovered_rests terms choices old new status before after b t ran told sound number asks (replied ∙ ap (λ n. Some (replies.Recovered number n)) none))

  -- the experiment of each swap that was open before moves
  all_move : AllMove (opens_of b.piece.from) (done terms choices old new status before after b t ran told sound).leads.first
  all_move o has =
      let l = (done terms choices old new status before after b t ran told sound).leads in
      (course_of terms choices old new status before (b ∷ after) t l.first o ran told (at_open b.piece.from _ (trace_after t.trace before) l.first o has l.before)
      (subst (λ (x : Session). Has (opens_of x) o) (handed_to Closed before after b ran.sessions) has)).moves

  -- A SUPPLIED SOLUTION goes in exactly where it is feasible, unless there is no room for it
  pub solution_goes_in : (only : Bool) (exp text : List ℕ) (lines : ℕ) (reply : Reply) → b.piece.command ≡ SwapinWith only exp lines text → b.piece.reply ≡ Some reply → GoesWell (steps_of b.piece)
      → (s : LabState) × FirstLab (is_early b.piece) (trace_after t.trace before) s × (mid : LabState) × BeginsAt b.piece.from s b.piece.opening mid
      × (reply ≡ taken_reply only exp → IsFeasibleFor mid exp text) × (IsFeasibleFor mid exp text → (reply ≡ taken_reply only exp) ⊎ LacksRoom reply)
  solution_goes_in only exp text lines reply asks replied well =
      let whole = alone (λ own turns. ⊎_elim (λ is. cc (sym asks ∙ is)) (λ is. cc (sym asks ∙ is)) turns) well in
      let calm = whole.reply reply replied in
      ⊎_elim (λ broken. absurd (not_broken reply calm broken))
      (λ x. (x.0, x.1, x.2, x.3, x.4, λ fits. ⊎_elim (λ taken. inl taken) (λ hinders. inr (room_only reply calm hinders)) (x.5 fits)))
      (swapped_in terms choices old new status before after b t ran told sound all_move only exp text lines reply asks replied)
