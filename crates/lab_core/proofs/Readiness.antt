-- The open swaps allow the task of a command, which swaps no other experiment than the command's.
use Rattle.std.proofs.Common.{◌≡◌, ◌⊎◌, ◌<◌, ℕ, Bool, true, false, nat_le, List, length, Option, Some, None, Ok, sym, ◌∙◌, subst, arith}
use Rattle.std.proofs.lemmas.Bool.{leb-false}
use Rattle.records_model.specs.Labs.{LabState}
use Rattle.script_text.specs.declared.command.Command.{Command}
use Rattle.swap_mgr.specs.Open.{HasOpen}
use Rattle.swap_txn.specs.declared.live.Live.{Live}
use Rattle.cost_rule.specs.declared.rule.RuleNumber.{RuleNumber}
use Rattle.lab_tasks.specs.OpenNames.{has_open, has_open_for, open_names, is_among, name_of}
use Rattle.lab_tasks.specs.Tasks.{Task, Swap, BeginOnly, Turn, Finish}
use Rattle.lab_judge.specs.Judge.{Judged}
use Rattle.lab_core.specs.Perform.{IsReady, swapped_by}
use Rattle.lab_judge.proofs.Fits.{IsFit, fits}
use Rattle.lab_tasks.proofs.Busy.{busy_open, open_busy}

-- IT IS READY where it is allowed
module _ (swaps : List Live) (exp : Option (List ℕ)) where
  idle_ready : (name : List ℕ) → (exp ≡ Some name) × (is_among (open_names swaps) exp ≡ false) × (nat_le 16 (length swaps) ≡ false) → (HasOpen swaps name → ⊥) × (length swaps < 16)
  idle_ready name h =
      let idle : has_open swaps name ≡ false = subst (λ (o : Option (List ℕ)). is_among (open_names swaps) o ≡ false) h.0 h.1 in
      (λ one. absurd (cc (sym idle ∙ open_busy swaps name one)), leb-false 16 (length swaps) h.2)

  open_ready : (name : List ℕ) → (exp ≡ Some name) × (is_among (open_names swaps) exp ≡ true) → HasOpen swaps name
  open_ready name h = busy_open swaps name (subst (λ (o : Option (List ℕ)). is_among (open_names swaps) o ≡ true) h.0 h.1)

fit_ready : (s : LabState) (swaps : List Live) (command : Command) (task : Task) → IsFit s command (has_open_for swaps command) (length swaps) (Ok task) → IsReady swaps task
fit_ready s swaps command (Swap name way) h = idle_ready swaps (name_of command) name h
fit_ready s swaps command (BeginOnly name way) h = idle_ready swaps (name_of command) name h
fit_ready s swaps command (Turn name) h = open_ready swaps (name_of command) name h
fit_ready s swaps command (Finish name) h = open_ready swaps (name_of command) name h
fit_ready s swaps command task h = tt

pub ready_of_judged : (rule : RuleNumber) (s : LabState) (swaps : List Live) (command : Command) (task : Task) → Judged rule s (has_open_for swaps command) (length swaps) command (Ok task) → IsReady swaps task
ready_of_judged rule s swaps command task is = fit_ready s swaps command task (fits s (has_open_for swaps command) (length swaps) rule command (Ok task) is)

-- IT SWAPS NO OTHER
fit_own : (s : LabState) (command : Command) (busy : Bool) (count : ℕ) (task : Task) → IsFit s command busy count (Ok task) → (swapped_by task ≡ name_of command) ⊎ (swapped_by task ≡ None)
fit_own s command busy count task h = grind arith

pub swaps_own : (rule : RuleNumber) (s : LabState) (busy : Bool) (count : ℕ) (command : Command) (task : Task) → Judged rule s busy count command (Ok task) → (swapped_by task ≡ name_of command) ⊎ (swapped_by task ≡ None)
swaps_own rule s busy count command task is = fit_own s command busy count task (fits s busy count rule command (Ok task) is)
