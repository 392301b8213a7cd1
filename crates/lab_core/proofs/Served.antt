-- `batch`: what is judged of it and of its runs in the parts of a controller, and what it leaves.
use Rattle.std.proofs.Common.{◌≡◌, inl, ℕ, Bool, true, false, List, length, Option, Some, None, IfOk, Result, Ok, Err, refl, sym, ap, ◌∙◌, subst}
use Rattle.plant.specs.Seen.{Seen}
use Rattle.records_model.specs.Labs.{LabState}
use Rattle.recovery.specs.Due.{is_busy}
use Rattle.journal_rec.specs.declared.record.Record.{Record}
use Rattle.cost_rule.specs.declared.rule.RuleNumber.{RuleNumber}
use Rattle.lab_ahead.specs.declared.batch.Batch.{Batch}
use Rattle.lab_ahead.specs.declared.batch.Promise.{Promise}
use Rattle.lab_ahead.specs.declared.batch.Run.{Run}
use Rattle.lab_ahead.specs.declared.ends.End.{End}
use Rattle.script_text.specs.Replies.{blames_device}
use Rattle.script_text.specs.declared.command.Command.TheVariants as commands
use Rattle.script_text.specs.declared.reply.Reply.{Reply}
use Rattle.script_text.specs.declared.reply.Served.{Served}
use Rattle.swap_txn.specs.declared.live.Live.{Live}
use Rattle.lab_core.specs.declared.fault.CoreFault.{CoreFault}
use Rattle.lab_core.specs.declared.fault.CoreFault.TheVariants as faults
use Rattle.lab_core.specs.Controller.{Control, WorksWith}
use Rattle.lab_tasks.specs.OpenNames.{has_open}
use Rattle.lab_core.specs.InTurn.{IsPart}
use Rattle.lab_tasks.specs.Tasks.{Swap, Task, Tell, IsMild}
use Rattle.lab_judge.specs.Judge.{Is}
use Rattle.lab_core.specs.LabSteps.{has_space}
use Rattle.lab_core.specs.Obey.{Obeyed, ObeysCommand, start_of}
use Rattle.lab_core.specs.Queues.{EndsRun, ObeysRuns}
use Rattle.lab_judge.specs.Serving.{JudgedBatch, JudgedRunAt, first_run}
use Rattle.lab_core.specs.BatchList.{JudgedRun, runs_in_turn}
use Rattle.lab_core.specs.Sessions.{OpenSwap, names_of}
use Rattle.lab_core.specs.Swapping.{TellsTask}
use Rattle.lab_core.specs.Perform.{IsReady, or_any, swapped_by}
use Rattle.lab_core.proofs.ListCommands.{list_listed, list_told, list_wanted}
use Rattle.lab_core.proofs.Obey.{obeyed_by}
use Rattle.lab_core.proofs.OpenNames.{same_busy, same_count}
use Rattle.lab_core.proofs.Parts.{calm_part, swap_part, swap_ready}
use Rattle.lab_core.proofs.Runs.{FitsRun, run_here}

-- ---- IN THE PARTS OF A CONTROLLER
module _ (s : LabState) (swaps : List Live) (rule : RuleNumber) (moment : ℕ) (promises : List Promise) (ends : List End) (run : Run) (space : Record → Bool) where
  abbrev JudgedHere : Result Task Reply → Type 0
  JudgedHere j = JudgedRunAt rule moment promises ends run space s (has_open swaps run.exp) (length swaps) j

  abbrev IsHere : Result Task Reply → Type 0
  IsHere j = FitsRun s (has_open swaps run.exp) (length swaps) run.exp j

  here : (j : Result Task Reply) → JudgedHere j → IsHere j
  here j judged = run_here s (has_open swaps run.exp) (length swaps) rule moment promises ends run space j judged

  ready : (task : Task) → IsHere (Ok task) → IsReady swaps task
  ready (Swap name way) h = swap_ready swaps run.exp name h.0
  ready (Tell reply) h = tt
  ready task h = absurd h.1

  pub run_ready : (task : Task) → JudgedHere (Ok task) → IsReady swaps task
  run_ready task judged = ready task (here (Ok task) judged)

  swaps_it : (task : Task) → IsHere (Ok task) → or_any (swapped_by task) (Some run.exp) ≡ Some run.exp
  swaps_it (Swap name way) h = sym h.0.0
  swaps_it (Tell reply) h = refl
  swaps_it task h = absurd h.1

  pub run_swaps : (task : Task) → JudgedHere (Ok task) → or_any (swapped_by task) (Some run.exp) ≡ Some run.exp
  run_swaps task judged = swaps_it task (here (Ok task) judged)

  -- what is told of it is a part's
  told_part : (task : Task) → IsHere (Ok task) → (reply : Reply) → TellsTask task reply → IsPart run.exp reply
  told_part (Swap name way) h reply is = swap_part run.exp name (let same : run.exp ≡ name = cc h.0.0 in sym same) reply is
  told_part (Tell told) h reply is = subst (IsPart run.exp) (sym is) (calm_part run.exp told h.2.0 h.2.1.0)
  told_part task h reply is = absurd h.1

  pub run_part : (task : Task) → JudgedHere (Ok task) → (result : Result Reply CoreFault) → IfOk result (TellsTask task) → IfOk result (IsPart run.exp)
  run_part task judged (Ok reply) is = told_part task (here (Ok task) judged) reply is
  run_part task judged (Err fault) is = tt

  pub refusal_part : (reply : Reply) → JudgedHere (Err reply) × IsMild reply → IsPart run.exp reply
  refusal_part reply h = calm_part run.exp reply (here (Err reply) h.0).2 h.1.0

  -- a reply that blames a device is of a swap, whose experiment was idle
  told_idle : (task : Task) → IsHere (Ok task) → (reply : Reply) → TellsTask task reply → blames_device reply ≡ true → has_open swaps run.exp ≡ false
  told_idle (Swap name way) h reply is blames = h.0.1
  told_idle (Tell told) h reply is blames = let both : true ≡ false = sym blames ∙ ap blames_device is ∙ h.2.1.1 in absurd (cc both)
  told_idle task h reply is blames = absurd h.1

  pub run_idle : (task : Task) → JudgedHere (Ok task) → (result : Result Reply CoreFault) → IfOk result (TellsTask task) → IfOk result (λ reply. blames_device reply ≡ true → has_open swaps run.exp ≡ false)
  run_idle task judged (Ok reply) is = told_idle task (here (Ok task) judged) reply is
  run_idle task judged (Err fault) is = tt

module _ (before : Seen) (inside old : Control) (view : inside ≡ old) (opens : List OpenSwap) (works : WorksWith before inside opens) (rule : RuleNumber) (moment : ℕ) (promises : List Promise) (ends : List End) (run : Run) (devices : ℕ) where
  abbrev Space : Control → Record → Bool
  Space c = λ entry. has_space (start_of devices c opens).set entry

  abbrev JudgedInside : Result Task Reply → Type 0
  JudgedInside j = JudgedRunAt rule moment promises ends run (Space inside) inside.lab (has_open inside.swaps run.exp) (length inside.swaps) j

  beside : (j : Result Task Reply) → JudgedInside j → JudgedRun rule moment promises ends run (Space inside) inside.lab opens j
  beside j h =
      subst (λ (n : ℕ). JudgedRunAt rule moment promises ends run (Space inside) inside.lab (is_busy (names_of opens) run.exp) n j) (sym (same_count before inside opens works))
      (subst (λ (b : Bool). JudgedRunAt rule moment promises ends run (Space inside) inside.lab b (length inside.swaps) j) (sym (same_busy before inside opens works run.exp)) h)

  pub run_done : (now : Seen) (new : Control) (task : Task) (result : Result Reply CoreFault) → JudgedInside (Ok task) → Obeyed devices before now (Is (Ok task)) old new opens (or_any (swapped_by task) (Some run.exp)) result
      → Obeyed devices before now (JudgedRun rule moment promises ends run (Space old) old.lab opens) old new opens (Some run.exp) result
  run_done now new task result judged h =
      let judged_so = subst (λ (c : Control). JudgedRun rule moment promises ends run (Space c) c.lab opens (Ok task)) view (beside (Ok task) judged) in
      obeyed_by (Is (Ok task)) (JudgedRun rule moment promises ends run (Space old) old.lab opens)
      (λ j is. subst (λ (x : Result Task Reply). JudgedRun rule moment promises ends run (Space old) old.lab opens x) (sym is) judged_so) devices before now old new opens (Some run.exp) result
      (subst (λ (e : Option (List ℕ)). Obeyed devices before now (Is (Ok task)) old new opens e result) (run_swaps inside.lab inside.swaps rule moment promises ends run (Space inside) task judged) h)

  pub run_refused : (reply : Reply) → JudgedInside (Err reply) × IsMild reply → JudgedRun rule moment promises ends run (Space old) old.lab opens (Err reply) × IsMild reply
  run_refused reply h = (subst (λ (c : Control). JudgedRun rule moment promises ends run (Space c) c.lab opens (Err reply)) view (beside (Err reply) h.0), h.1)

  -- whether it is idle, as the session has it
  pub idle_beside : (result : Result Reply CoreFault) → IfOk result (λ reply. blames_device reply ≡ true → has_open inside.swaps run.exp ≡ false) → IfOk result (λ reply. blames_device reply ≡ true → is_busy (names_of opens) run.exp ≡ false)
  idle_beside (Ok reply) h = λ blames. same_busy before inside opens works run.exp ∙ h blames
  idle_beside (Err fault) h = tt

-- a mild reply blames no device
pub mild_idle : {P : Type 0} (reply : Reply) → IsMild reply → blames_device reply ≡ true → P
mild_idle reply mild blames = let both : true ≡ false = sym blames ∙ mild.1 in absurd (cc both)

-- how a run ended that wasn't answered
pub fault_ends : (so_far : Served) (exp : List ℕ) (Leaves : Result Reply CoreFault → Type 0) (fault : CoreFault) → Leaves (Err fault) → EndsRun so_far exp Leaves (Err fault)
fault_ends so_far exp Leaves faults.Stopped h = h
fault_ends so_far exp Leaves faults.Memory h = inl h

-- ---- THE COMMAND
module _ (rule : RuleNumber) (moment lines : ℕ) (text : List ℕ) (devices : ℕ) (opens : List OpenSwap) where
  abbrev Whole : Seen → Seen → Control → Control → Result Reply CoreFault → Type 0
  Whole before now old new result = ObeysCommand rule (commands.Batch moment lines text) devices before now old new opens result

  -- its runs were served
  pub batch_listed : (before now : Seen) (old new : Control) (batch : Batch) → JudgedBatch old.lab text (Ok (first_run batch)) → (result : Result Reply CoreFault) → ObeysRuns rule moment (first_run batch) devices before now old new opens result → Whole before now old new result
  batch_listed before now old new batch judged result h = list_listed (runs_in_turn rule moment) (JudgedBatch old.lab text) devices opens None old before now new (first_run batch) judged result h

  -- it was refused, or memory was wanting before anything was done
  module _ (before : Seen) (c : Control) (works : WorksWith before c opens) where
    pub batch_told : (reply : Reply) → JudgedBatch c.lab text (Err reply) × IsMild reply → Whole before before c c (Ok reply)
    batch_told reply h = list_told (runs_in_turn rule moment) (JudgedBatch c.lab text) devices opens None c before works reply h

    pub batch_wanted : Whole before before c c (Err faults.Memory)
    batch_wanted = list_wanted (runs_in_turn rule moment) (JudgedBatch c.lab text) devices opens None c before works
