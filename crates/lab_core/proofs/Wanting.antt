-- Want of memory in a command.
use Rattle.std.proofs.Common.{◌≡◌, ℕ, false, List, None, Result, refl, ap, Option}
use Rattle.plant.specs.Events.{Event}
use Rattle.records_model.specs.Labs.{LabState}
use Rattle.cost_rule.specs.declared.rule.RuleNumber.{RuleNumber}
use Rattle.script_text.specs.declared.command.Command.{Command}
use Rattle.script_text.specs.declared.command.Command.TheVariants as commands
use Rattle.script_text.specs.declared.reply.Reply.{Reply}
use Rattle.plant.specs.Seen.{Seen}
use Rattle.lab_core.specs.declared.fault.CoreFault.{CoreFault}
use Rattle.lab_core.specs.Controller.{Control}
use Rattle.lab_core.specs.Auditing.{no_memory as audit_wants}
use Rattle.lab_judge.specs.Judge.{is_unjudged}
use Rattle.lab_core.specs.LabSteps.{JudgedBeside}
use Rattle.lab_core.specs.Lists.{between, listed, no_memory, undone, wanting}
use Rattle.lab_core.specs.Obey.{Obeyed, ObeysCommand, WantsIn, does_command, start_of, wants_of_command}
use Rattle.lab_core.specs.Sessions.{OpenSwap, shut_by}
use Rattle.lab_tasks.specs.OpenNames.{name_of}
use Rattle.lab_core.proofs.Obey.{wants_done}

module _ (rule : RuleNumber) (devices : ℕ) (c : Control) (opens : List OpenSwap) (trace : Option (List Event)) (own : List Event) (lab : LabState) (to : List OpenSwap) where
  abbrev Wants : Command → Type 0
  Wants command = wants_of_command rule command devices c opens trace own lab to

  abbrev Ended : Command → Type 0
  Ended command = does_command rule command devices c opens trace own (shut_by None lab)

  -- of one that is no list
  pub plain_wants : (command : Command) → is_unjudged command ≡ false → Wants command → WantsIn (JudgedBeside rule command opens c.lab) (start_of devices c opens) own lab to
  plain_wants (commands.Play exp from until lines text) no' wants = absurd (cc no')
  plain_wants (commands.Batch moment lines text) no' wants = absurd (cc no')
  plain_wants commands.Audit no' wants = absurd (cc no')
  plain_wants command no' wants = wants

  plain_done : (command : Command) → is_unjudged command ≡ false → WantsIn (JudgedBeside rule command opens c.lab) (start_of devices c opens) own lab to → Ended command
  plain_done (commands.Play exp from until lines text) no' wants = absurd (cc no')
  plain_done (commands.Batch moment lines text) no' wants = absurd (cc no')
  plain_done commands.Audit no' wants = absurd (cc no')
  plain_done command no' wants = wants_done (JudgedBeside rule command opens c.lab) (start_of devices c opens) own lab to wants

  -- THE COMMAND IS DONE as far as it came
  pub command_wants : (command : Command) → Wants command → Ended command
  command_wants (commands.Play exp from until lines text) (undone nothing lab_is to_is) = no_memory (record { nothing = nothing; after_is = ap (λ u. shut_by None u) lab_is })
  command_wants (commands.Play exp from until lines text) (between start at judged past) = listed start judged (wanting at lab to past refl)
  command_wants (commands.Batch moment lines text) (undone nothing lab_is to_is) = no_memory (record { nothing = nothing; after_is = ap (λ u. shut_by None u) lab_is })
  command_wants (commands.Batch moment lines text) (between start at judged past) = listed start judged (wanting at lab to past refl)
  command_wants commands.Audit (nothing, lab_is, to_is) = audit_wants (record { nothing = nothing; after_is = ap (λ u. shut_by None u) lab_is })
  command_wants command wants = plain_done command refl (plain_wants command refl wants)

-- A COMMAND THAT IS NO LIST is obeyed by its judgement
pub plain_obeys : (rule : RuleNumber) (command : Command) → is_unjudged command ≡ false → (devices : ℕ) (before now : Seen) (old new : Control) (opens : List OpenSwap) (result : Result Reply CoreFault) → Obeyed devices before now (JudgedBeside rule command opens old.lab) old new opens (name_of command) result
    → ObeysCommand rule command devices before now old new opens result
plain_obeys rule (commands.Play exp from until lines text) no' devices before now old new opens result h = absurd (cc no')
plain_obeys rule (commands.Batch moment lines text) no' devices before now old new opens result h = absurd (cc no')
plain_obeys rule commands.Audit no' devices before now old new opens result h = absurd (cc no')
plain_obeys rule command no' devices before now old new opens result h = h
