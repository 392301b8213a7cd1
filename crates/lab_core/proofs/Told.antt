-- The reply to a turn, beside its end; and the lab after it.
use Rattle.std.proofs.Common.{◌≡◌, ℕ, Bool, true, false, List, Option, Some, None, is_some, Result, Ok, Err, refl, sym, ap, ◌∙◌, subst}
use Rattle.std.proofs.lemmas.Option.{same_Some}
use Rattle.lab_base.specs.declared.what.What.{What}
use Rattle.lab_base.specs.declared.what.What.TheVariants as whats
use Rattle.lab_model.specs.Courses.{Trouble as AnyTrouble}
use Rattle.virt_topo.specs.declared.mapping.Mapped.{Mapped}
use Rattle.plant.specs.Events.{Event}
use Rattle.records_model.specs.Labs.{LabState, Commits, Aborts, moved}
use Rattle.lab_state.specs.Changes.{ending}
use Rattle.swap_txn.specs.declared.ended.Ended.{Ended as Over}
use Rattle.swap_txn.specs.Troubles.{what_of}
use Rattle.swap_turns.specs.Swaps.{Swap as SwapOf}
use Rattle.swap_turns.specs.Finishing.{Onward, along, back}
use Rattle.swap_turns.specs.Legs.{Leg, Forth, Undo, Settling, commits, inside_by, last_move_by, why_of}
use Rattle.swap_turns.specs.Running.{OpenSwap as RunningSwap}
use Rattle.swap_turns.specs.Turning.{Outcome, More, TurnsBack, Ended, Stuck, Unwritten, Stopped, IsStuckAs, TurnSteps}
use Rattle.swap_mgr.specs.Managing.{IsPlain, IsProgress}
use Rattle.swap_turns.specs.declared.progress.Progress.{Progress}
use Rattle.swap_turns.specs.declared.progress.Progress.TheVariants as progress
use Rattle.script_text.specs.declared.reply.FailedEnd.TheVariants as ends
use Rattle.script_text.specs.declared.reply.Reply.{Reply}
use Rattle.script_text.specs.declared.reply.Reply.TheVariants.{More as MoreReply, Trouble, Failed}
use Rattle.lab_core.specs.declared.fault.CoreFault.{CoreFault}
use Rattle.lab_core.specs.declared.fault.CoreFault.TheVariants as faults
use Rattle.lab_core.specs.LabSteps.{done_reply, turn_reply, undone_end}
use Rattle.swap_mgr.specs.Turns.{over_of}
use Rattle.recovery.specs.One.{EndsBy}
use Rattle.lab_core.specs.Swapping.{progress_answer, reply_of_done, reply_of_over, undone_by}

-- THE ANSWER by the outcome: the reply to it, or the plant stopped
abbrev pub IsAnswer : SwapOf → Outcome → Result Reply CoreFault → Type 0
IsAnswer p Stopped result = result ≡ Err faults.Stopped
IsAnswer p outcome result = (reply : Reply) × (turn_reply p outcome ≡ Some reply) × (result ≡ Ok reply)

done_told : (exp : List ℕ) (new : Option Mapped) → reply_of_done exp (is_some new) ≡ done_reply exp new
done_told exp None = refl
done_told exp (Some m) = refl

undone_told : (old : Option Mapped) → undone_by (is_some old) ≡ undone_end old
undone_told None = refl
undone_told (Some m) = refl

answer_as : (p : SwapOf) (outcome other : Outcome) (result : Result Reply CoreFault) → outcome ≡ other → IsAnswer p other result → IsAnswer p outcome result
answer_as p outcome other result is h = subst (λ (o : Outcome). IsAnswer p o result) (sym is) h

-- it is over
over_answer : (p : SwapOf) (exp : List ℕ) (over : Over) (leg : Leg) → p.name ≡ exp → IsPlain leg → over.inside ≡ inside_by p (commits p leg) → over.why ≡ why_of leg → IsAnswer p (Ended leg) (Ok (reply_of_over exp over.inside over.why))
over_answer p exp over Forth name plain inside why = (
  done_reply p.name p.new,
  refl,
  ap Ok ((λ i. reply_of_over (sym name i) (inside i) (why i)) ∙ done_told p.name p.new),
)
over_answer p exp over (Undo trouble) name plain inside why = (
  Failed p.name (undone_end p.old) (what_of trouble),
  refl,
  ap Ok ((λ i. reply_of_over (sym name i) (inside i) (why i)) ∙ ap (λ end. Failed p.name end (what_of trouble)) (undone_told p.old)),
)
over_answer p exp over Settling name plain inside why = absurd plain

-- it is stuck
pub stuck_answer : (p : SwapOf) (exp : List ℕ) (what : What) (outcome : Outcome) → p.name ≡ exp → IsStuckAs what outcome → IsAnswer p outcome (Ok (Failed exp ends.Stuck what))
stuck_answer p exp what outcome name stuck = by what stuck
  where
    troubled : (what : What) (trouble : AnyTrouble) → what ≡ what_of trouble → outcome ≡ Stuck trouble → IsAnswer p outcome (Ok (Failed exp ends.Stuck what))
    troubled what trouble told is =
        answer_as p outcome (Stuck trouble) (Ok (Failed exp ends.Stuck what)) is (Failed p.name ends.Stuck (what_of trouble), refl, λ i. Ok (Failed (sym name i) ends.Stuck (told i)))

    by : (what : What) → IsStuckAs what outcome → IsAnswer p outcome (Ok (Failed exp ends.Stuck what))
    by (whats.Device device) h = troubled (whats.Device device) h.0 h.1 h.2
    by (whats.Late node) h = troubled (whats.Late node) h.0 h.1 h.2
    by (whats.Unlawful node from to) h = troubled (whats.Unlawful node from to) h.0 h.1 h.2
    by whats.Journal h = answer_as p outcome Unwritten (Ok (Failed exp ends.Stuck whats.Journal)) h (Failed p.name ends.Stuck whats.Journal, refl, λ i. Ok (Failed (sym name i) ends.Stuck whats.Journal))

-- WHATEVER IS TOLD of a turn
pub answered : (o : RunningSwap) (exp : List ℕ) → o.swap.name ≡ exp → (told : Progress) (outcome : Outcome) → (outcome ≡ Ended o.leg → IsPlain o.leg) → IsProgress o told outcome → IsAnswer o.swap outcome (progress_answer exp told)
answered o exp name progress.More outcome plain is = answer_as o.swap outcome More (Ok (MoreReply exp)) is (MoreReply o.swap.name, refl, ap (λ (n : List ℕ). Ok (MoreReply n)) (sym name))
answered o exp name (progress.Trouble what) outcome plain is =
    answer_as o.swap outcome (TurnsBack is.0) (Ok (Trouble exp what)) is.2 (Trouble o.swap.name (what_of is.0), refl, λ i. Ok (Trouble (sym name i) (is.1 i)))
answered o exp name (progress.Ended over) outcome plain is =
    answer_as o.swap outcome (Ended o.leg) (Ok (reply_of_over exp over.inside over.why)) is.outcome_is (over_answer o.swap exp over o.leg name (plain is.outcome_is) is.inside is.why)
answered o exp name (progress.Stuck what) outcome plain is = stuck_answer o.swap exp what outcome name is
answered o exp name progress.Stopped outcome plain is = answer_as o.swap outcome Stopped (Err faults.Stopped) is refl

-- the plant stopped exactly in that outcome
abbrev pub Halts : Outcome → Type 0
Halts Stopped = Unit {0}
Halts outcome = ⊥

stops_stuck : (what : What) (outcome : Outcome) → IsStuckAs what outcome → Halts outcome → ⊥
stops_stuck (whats.Device name) outcome told h = subst Halts told.2 h
stops_stuck (whats.Late node) outcome told h = subst Halts told.2 h
stops_stuck (whats.Unlawful node from to) outcome told h = subst Halts told.2 h
stops_stuck whats.Journal outcome told h = subst Halts told h

pub halts_as : (o : RunningSwap) (told : Progress) (outcome : Outcome) → IsProgress o told outcome → (Halts outcome → Rattle.swap_mgr.specs.Turns.IsStop told) × (Rattle.swap_mgr.specs.Turns.IsStop told → Halts outcome)
halts_as o progress.More outcome is = (λ h. subst Halts is h, λ h. absurd h)
halts_as o (progress.Trouble what) outcome is = (λ h. subst Halts is.2 h, λ h. absurd h)
halts_as o (progress.Ended over) outcome is = (λ h. subst Halts is.outcome_is h, λ h. absurd h)
halts_as o (progress.Stuck what) outcome is = (λ h. stops_stuck what outcome is h, λ h. absurd h)
halts_as o progress.Stopped outcome is = (λ h. tt, λ h. subst Halts (sym is) tt)

-- ---- THE LAB AFTER A TURN
-- what is told, by the swap alone
abbrev pub TellsOf : SwapOf → Progress → Outcome → Type 0
TellsOf p progress.More outcome = outcome ≡ More
TellsOf p (progress.Trouble what) outcome = (why : AnyTrouble) × (what ≡ what_of why) × (outcome ≡ TurnsBack why)
TellsOf p (progress.Ended over) outcome = (leg : Leg) × (outcome ≡ Ended leg) × (over.committed ≡ commits p leg)
TellsOf p (progress.Stuck what) outcome = IsStuckAs what outcome
TellsOf p progress.Stopped outcome = outcome ≡ Stopped

pub tells_of : (o : RunningSwap) (told : Progress) (outcome : Outcome) → IsProgress o told outcome → TellsOf o.swap told outcome
tells_of o progress.More outcome is = is
tells_of o (progress.Trouble what) outcome is = is
tells_of o (progress.Ended over) outcome is = (o.leg, is.outcome_is, is.committed)
tells_of o (progress.Stuck what) outcome is = is
tells_of o progress.Stopped outcome is = is

-- the last record says the end of the move
ends_by : (s v : LabState) (name exp : List ℕ) (commit committed : Bool) → moved s (last_move_by commit name) ≡ Some v → name ≡ exp → committed ≡ commit → moved s (ending exp committed) ≡ Some v
ends_by s v name exp true committed moves same is = ap (λ (b : Bool). moved s (ending exp b)) is ∙ ap (λ (n : List ℕ). moved s (Commits n)) (sym same) ∙ moves
ends_by s v name exp false committed moves same is = ap (λ (b : Bool). moved s (ending exp b)) is ∙ ap (λ (n : List ℕ). moved s (Aborts n)) (sym same) ∙ moves

module _ (s : LabState) (o : RunningSwap) (exp : List ℕ) (name : o.swap.name ≡ exp) (steps : List Event) where
  pub ended_as : (over : Over) (leg : Leg) (after : LabState) → over.committed ≡ commits o.swap leg → TurnSteps s o steps (Ended leg) after → moved s (ending exp over.committed) ≡ Some after
  ended_as over leg after is turn = ends_by s after o.swap.name exp (commits o.swap leg) over.committed turn.0.1.moves name is

  stuck_lab : (what : What) (outcome : Outcome) → IsStuckAs what outcome → (outcome ≡ Unwritten → ⊥) → (after : LabState) → TurnSteps s o steps outcome after → after ≡ s
  stuck_lab (whats.Device device) outcome is goes after turn = (subst (λ (x : Outcome). TurnSteps s o steps x after) is.2 turn).3
  stuck_lab (whats.Late node) outcome is goes after turn = (subst (λ (x : Outcome). TurnSteps s o steps x after) is.2 turn).3
  stuck_lab (whats.Unlawful node from to) outcome is goes after turn = (subst (λ (x : Outcome). TurnSteps s o steps x after) is.2 turn).3
  stuck_lab whats.Journal outcome is goes after turn = absurd (goes is)

  -- it is the one to which the move's end leads, or that before
  pub same_lab : (told : Progress) (outcome : Outcome) → TellsOf o.swap told outcome → (outcome ≡ Unwritten → ⊥) → (outcome ≡ Stopped → ⊥) → (after lab : LabState) → TurnSteps s o steps outcome after → EndsBy s exp (over_of told) lab → after ≡ lab
  same_lab progress.More outcome is goes on after lab turn ended = (subst (λ (x : Outcome). TurnSteps s o steps x after) is turn).2 ∙ sym ended
  same_lab (progress.Trouble what) outcome is goes on after lab turn ended = (subst (λ (x : Outcome). TurnSteps s o steps x after) is.2 turn).4 ∙ sym ended
  same_lab (progress.Ended over) outcome is goes on after lab turn ended = same_Some after lab (sym (ended_as over is.0 after is.2 (subst (λ (x : Outcome). TurnSteps s o steps x after) is.1 turn)) ∙ ended)
  same_lab (progress.Stuck what) outcome is goes on after lab turn ended = stuck_lab what outcome is goes after turn ∙ sym ended
  same_lab progress.Stopped outcome is goes on after lab turn ended = absurd (on is)

-- a plain leg leads on to a plain one
pub onward_plain : (s : LabState) (o : RunningSwap) (front : List Event) (at : RunningSwap) → IsPlain o.leg → Onward s o front at → IsPlain at.leg
onward_plain s o front at plain (along is) = subst (λ (x : RunningSwap). IsPlain x.leg) (sym is) plain
onward_plain s o front at plain (back why before course forth has cut is steps) = subst (λ (x : RunningSwap). IsPlain x.leg) (sym is) tt
