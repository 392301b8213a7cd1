-- A judged command is done beside the session's open swaps, or refused.
use Rattle.std.proofs.Common.{◌≡◌, ◌⊎◌, inl, inr, ℕ, List, length, Option, Some, None, Result, Ok, Err, refl, subst}
use Rattle.plant.specs.Seen.{Seen}
use Rattle.script_text.specs.declared.command.Command.{Command}
use Rattle.script_text.specs.declared.reply.Reply.{Reply}
use Rattle.cost_rule.specs.declared.rule.RuleNumber.{RuleNumber}
use Rattle.lab_core.specs.declared.fault.CoreFault.{CoreFault}
use Rattle.lab_core.specs.Controller.{Control, WorksWith}
use Rattle.lab_tasks.specs.OpenNames.{has_open_for, name_of}
use Rattle.lab_tasks.specs.Tasks.{Task, IsMild}
use Rattle.lab_judge.specs.Judge.{Is, Judged}
use Rattle.lab_core.specs.LabSteps.{JudgedBeside}
use Rattle.lab_core.specs.Obey.{Obeyed}
use Rattle.lab_core.specs.Sessions.{OpenSwap}
use Rattle.lab_core.specs.Perform.{or_any, swapped_by}
use Rattle.lab_core.proofs.Obey.{obeyed_as}
use Rattle.lab_core.proofs.OpenNames.{judged_beside}
use Rattle.lab_core.proofs.Readiness.{swaps_own}

-- by the command's own experiment, where no other was swapped
own_or : (swapped name : Option (List ℕ)) → (swapped ≡ name) ⊎ (swapped ≡ None) → or_any swapped name ≡ name
own_or None name h = refl
own_or (Some exp) name (inl same) = same
own_or (Some exp) name (inr none) = absurd (cc none)

-- WHAT THE CODE JUDGED in the parts of a controller
module _ (before : Seen) (inside old : Control) (view : inside ≡ old) (opens : List OpenSwap) (works : WorksWith before inside opens) (rule : RuleNumber) (command : Command) where
  abbrev JudgedInside : Result Task Reply → Type 0
  JudgedInside judgement = Judged rule inside.lab (has_open_for inside.swaps command) (length inside.swaps) command judgement

  pub done_beside : (devices : ℕ) (now : Seen) (new : Control) (task : Task) (result : Result Reply CoreFault) → JudgedInside (Ok task) → Obeyed devices before now (Is (Ok task)) old new opens (or_any (swapped_by task) (name_of command)) result
      → Obeyed devices before now (JudgedBeside rule command opens old.lab) old new opens (name_of command) result
  done_beside devices now new task result judged h =
      let own = own_or (swapped_by task) (name_of command) (swaps_own rule inside.lab (has_open_for inside.swaps command) (length inside.swaps) command task judged) in
      let judged_so = subst (λ (c : Control). JudgedBeside rule command opens c.lab (Ok task)) view (judged_beside before inside opens works rule command (Ok task) judged) in
      obeyed_as rule devices before now old new opens (name_of command) command (Ok task) judged_so result
      (subst (λ (e : Option (List ℕ)). Obeyed devices before now (Is (Ok task)) old new opens e result) own h)

  pub refused_beside : (reply : Reply) → JudgedInside (Err reply) × IsMild reply → JudgedBeside rule command opens old.lab (Err reply) × IsMild reply
  refused_beside reply h = (subst (λ (c : Control). JudgedBeside rule command opens c.lab (Err reply)) view (judged_beside before inside opens works rule command (Err reply) h.0), h.1)
