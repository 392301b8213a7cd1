-- `play`: what is judged of it in the parts of a controller, and what it leaves.
use Rattle.std.proofs.Common.{◌≡◌, ◌≢◌, ℕ, Bool, true, false, List, length, Option, Some, None, IfOk, Result, Ok, Err, sym, ◌∙◌, subst}
use Rattle.std.proofs.lemmas.Option.{same_Some}
use Rattle.lab_base.specs.Lists.{Has}
use Rattle.lab_base.proofs.Members.{Has-mapped}
use Rattle.plant.specs.Seen.{Seen}
use Rattle.records_model.specs.Labs.{LabState}
use Rattle.recovery.specs.Due.{is_busy}
use Rattle.virt_topo.specs.declared.wiring.Wiring.{Wiring}
use Rattle.cost_rule.specs.declared.rule.RuleNumber.{RuleNumber}
use Rattle.ns_events.specs.declared.event.Event.{Event as LinkEvent}
use Rattle.script_text.specs.declared.command.Command.TheVariants as commands
use Rattle.script_text.specs.declared.reply.Reply.{Reply}
use Rattle.swap_txn.specs.declared.live.Live.{Live}
use Rattle.lab_core.specs.declared.fault.CoreFault.{CoreFault}
use Rattle.lab_core.specs.declared.fault.CoreFault.TheVariants as faults
use Rattle.lab_core.specs.Controller.{Control, WorksWith}
use Rattle.lab_tasks.specs.OpenNames.{has_open}
use Rattle.lab_core.specs.InTurn.{IsPart, ObeysEvents}
use Rattle.lab_tasks.specs.Tasks.{Swap, Task, IsMild}
use Rattle.lab_judge.specs.Judge.{Is}
use Rattle.lab_core.specs.Obey.{Obeyed, ObeysCommand}
use Rattle.lab_tasks.specs.Playing.{JudgedEventAt, JudgedPlayAt, Playing}
use Rattle.lab_core.specs.PlayList.{JudgedEvent, JudgedPlay, events_in_turn}
use Rattle.lab_core.specs.Sessions.{OpenSwap, name_in, names_of, open_at}
use Rattle.lab_core.specs.Swapping.{TellsTask}
use Rattle.lab_core.specs.Perform.{IsReady, or_any, swapped_by}
use Rattle.lab_core.proofs.Events.{FitsPlain, event_here, plays_idle}
use Rattle.lab_core.proofs.ListCommands.{list_listed, list_told, list_wanted}
use Rattle.lab_core.proofs.Obey.{obeyed_by}
use Rattle.lab_tasks.proofs.Busy.{has_busy}
use Rattle.lab_core.proofs.OpenNames.{same_busy, same_count}
use Rattle.lab_core.proofs.OpenSwaps.{open_at_none}
use Rattle.lab_core.proofs.Parts.{calm_part, swap_part, swap_ready}

-- ---- IN THE PARTS OF A CONTROLLER
module _ (before : Seen) (inside old : Control) (view : inside ≡ old) (opens : List OpenSwap) (works : WorksWith before inside opens) (exp : List ℕ) where
  same_is : is_busy (names_of opens) exp ≡ has_open inside.swaps exp
  same_is = same_busy before inside opens works exp

  -- an event beside the session's open swaps
  pub event_beside : (text : Wiring) (event : LinkEvent) (j : Result Task Reply) → JudgedEventAt exp text event inside.lab (has_open inside.swaps exp) (length inside.swaps) j → JudgedEvent exp text event inside.lab opens j
  event_beside text event j h =
      subst (λ (n : ℕ). JudgedEventAt exp text event inside.lab (is_busy (names_of opens) exp) n j) (sym (same_count before inside opens works))
      (subst (λ (b : Bool). JudgedEventAt exp text event inside.lab b (length inside.swaps) j) (sym same_is) h)

  pub play_beside : (from to : ℕ) (text : List ℕ) (j : Result Playing Reply) → JudgedPlayAt inside.lab (has_open inside.swaps exp) exp from to text j → JudgedPlay old.lab opens exp from to text j
  play_beside from to text j h = subst (λ (c : Control). JudgedPlay c.lab opens exp from to text j) view (subst (λ (b : Bool). JudgedPlayAt inside.lab b exp from to text j) (sym same_is) h)

-- ---- READY, and what is told
-- an event that nothing refuses is a swap of its experiment, where no swap of it is open and there is room for one more
module _ (s : LabState) (swaps : List Live) (exp : List ℕ) (text : Wiring) (event : LinkEvent) where
  abbrev JudgedHere : Result Task Reply → Type 0
  JudgedHere j = JudgedEventAt exp text event s (has_open swaps exp) (length swaps) j

  abbrev IsHere : Result Task Reply → Type 0
  IsHere j = FitsPlain s (has_open swaps exp) (length swaps) exp j

  here : (j : Result Task Reply) → JudgedHere j → IsHere j
  here j judged = event_here s (has_open swaps exp) (length swaps) exp text event j judged

  ready : (task : Task) → IsHere (Ok task) → IsReady swaps task
  ready (Swap name way) h = swap_ready swaps exp name h.0
  ready task h = absurd h.2

  pub event_ready : (task : Task) → JudgedHere (Ok task) → IsReady swaps task
  event_ready task judged = ready task (here (Ok task) judged)

  swaps_it : (task : Task) → IsHere (Ok task) → or_any (swapped_by task) (Some exp) ≡ Some exp
  swaps_it (Swap name way) h = sym h.0.0
  swaps_it task h = absurd h.2

  pub event_swaps : (task : Task) → JudgedHere (Ok task) → or_any (swapped_by task) (Some exp) ≡ Some exp
  event_swaps task judged = swaps_it task (here (Ok task) judged)

  -- what is told of it is a part's
  told_part : (task : Task) → IsHere (Ok task) → (reply : Reply) → TellsTask task reply → IsPart exp reply
  told_part (Swap name way) h reply is = swap_part exp name (sym (same_Some exp name h.0.0)) reply is
  told_part task h reply is = absurd h.2

  pub event_part : (task : Task) → JudgedHere (Ok task) → (result : Result Reply CoreFault) → IfOk result (TellsTask task) → IfOk result (IsPart exp)
  event_part task judged (Ok reply) is = told_part task (here (Ok task) judged) reply is
  event_part task judged (Err fault) is = tt

  pub refusal_part : (reply : Reply) → JudgedHere (Err reply) × IsMild reply → IsPart exp reply
  refusal_part reply h = calm_part exp reply (here (Err reply) h.0).2 h.1.0

-- ---- AN EVENT IS DONE
module _ (before : Seen) (inside old : Control) (view : inside ≡ old) (opens : List OpenSwap) (works : WorksWith before inside opens) (exp : List ℕ) (text : Wiring) (event : LinkEvent) where
  abbrev JudgedInside : Result Task Reply → Type 0
  JudgedInside j = JudgedEventAt exp text event inside.lab (has_open inside.swaps exp) (length inside.swaps) j

  pub event_done : (devices : ℕ) (now : Seen) (new : Control) (task : Task) (result : Result Reply CoreFault) → JudgedInside (Ok task) → Obeyed devices before now (Is (Ok task)) old new opens (or_any (swapped_by task) (Some exp)) result
      → Obeyed devices before now (JudgedEvent exp text event old.lab opens) old new opens (Some exp) result
  event_done devices now new task result judged h =
      let judged_so = subst (λ (c : Control). JudgedEvent exp text event c.lab opens (Ok task)) view (event_beside before inside old view opens works exp text event (Ok task) judged) in
      obeyed_by (Is (Ok task)) (JudgedEvent exp text event old.lab opens) (λ j is. subst (λ (x : Result Task Reply). JudgedEvent exp text event old.lab opens x) (sym is) judged_so) devices before now old new opens (Some exp) result
      (subst (λ (e : Option (List ℕ)). Obeyed devices before now (Is (Ok task)) old new opens e result) (event_swaps inside.lab inside.swaps exp text event task judged) h)

  pub event_refused : (reply : Reply) → JudgedInside (Err reply) × IsMild reply → JudgedEvent exp text event old.lab opens (Err reply) × IsMild reply
  event_refused reply h = (subst (λ (c : Control). JudgedEvent exp text event c.lab opens (Err reply)) view (event_beside before inside old view opens works exp text event (Err reply) h.0), h.1)

-- ---- THE COMMAND
module _ (rule : RuleNumber) (exp : List ℕ) (from to lines : ℕ) (text : List ℕ) (devices : ℕ) (opens : List OpenSwap) where
  abbrev Whole : Seen → Seen → Control → Control → Result Reply CoreFault → Type 0
  Whole before now old new result = ObeysCommand rule (commands.Play exp from to lines text) devices before now old new opens result

  -- its events were played
  module _ (before now : Seen) (old new : Control) where
    pub play_listed : (start : Playing) → JudgedPlay old.lab opens exp from to text (Ok start) → (result : Result Reply CoreFault) → (open_at exp opens ≡ None → ObeysEvents exp start devices before now old new opens result) → Whole before now old new result
    play_listed start judged result h =
        list_listed (events_in_turn exp) (JudgedPlay old.lab opens exp from to text) devices opens (Some exp) old before now new start judged result
        (h (open_at_none exp opens (idle_apart (plays_idle old.lab opens exp from to text start judged))))
      where
        idle_apart : is_busy (names_of opens) exp ≡ false → (q : OpenSwap) → Has opens q → name_in q ≢ exp
        idle_apart idle q has same = let both : true ≡ false = sym (has_busy (names_of opens) exp (subst (λ (n : List ℕ). Has (names_of opens) n) same (Has-mapped name_in opens q has))) ∙ idle in absurd (cc both)

  -- it was refused, or memory was wanting before anything was done
  module _ (before : Seen) (c : Control) (works : WorksWith before c opens) where
    pub play_refused : (reply : Reply) → JudgedPlay c.lab opens exp from to text (Err reply) × IsMild reply → Whole before before c c (Ok reply)
    play_refused reply h = list_told (events_in_turn exp) (JudgedPlay c.lab opens exp from to text) devices opens (Some exp) c before works reply h

    pub play_wanted : Whole before before c c (Err faults.Memory)
    play_wanted = list_wanted (events_in_turn exp) (JudgedPlay c.lab opens exp from to text) devices opens (Some exp) c before works
