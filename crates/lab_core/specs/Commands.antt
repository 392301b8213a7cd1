-- WHAT AN OPEN CONTROLLER DOES of a command, and the lab step.
use Rattle.std.specs.Prelude.{ℕ, Bool, false, List, Option, Some, None}
use Rattle.std.specs.Str.{bytes_eq}
use Rattle.plant.specs.Events.{Event}
use Rattle.records_model.specs.Labs.{LabState}
use Rattle.cost_rule.specs.declared.rule.RuleNumber.{RuleNumber}
use Rattle.script_text.specs.Drills.{drill_of}
use Rattle.script_text.specs.declared.command.Command.{Command}
use Rattle.script_text.specs.declared.command.Command.TheVariants as commands
use Rattle.lab_core.specs.Auditing.{Audits}
use Rattle.lab_core.specs.LabSteps.{DoesBy, JudgedBeside, StepOf}
use Rattle.lab_core.specs.Lists.{DoesList, Ground}
use Rattle.lab_core.specs.Moments.{with_more}
use Rattle.lab_core.specs.PlayList.{JudgedPlay, events_in_turn}
use Rattle.lab_judge.specs.Serving.{JudgedBatch}
use Rattle.lab_core.specs.BatchList.{has_run, runs_in_turn}
use Rattle.lab_core.specs.Sessions.{OpenSwap, Session, Setting, After, Terms}
use Rattle.lab_tasks.specs.OpenNames.{name_of}
use Rattle.lab_ahead.specs.Batches.{batch_of_text}

-- THE COMMAND IS ABOUT that experiment: it names it, or a run of its text does
abbrev pub is_named : Option (List ℕ) → List ℕ → Bool
is_named None name = false
is_named (Some exp) name = bytes_eq exp name

abbrev pub is_about : Command → List ℕ → Bool
is_about (commands.Batch moment lines text) name = has_run (batch_of_text text) name
is_about command name = is_named (name_of command) name

abbrev pub ground_by : Setting → Ground
ground_by set = record { length = set.length; limit = set.limit; devices = set.devices }

-- `play`: the changes that the due events of its text ask for, in turn
abbrev pub Plays : List ℕ → ℕ → ℕ → List ℕ → Option (List Event) → Setting → List OpenSwap → LabState → List Event → After → Type 0
Plays exp from to text trace set opens s own after = DoesList (events_in_turn exp) (JudgedPlay s opens exp from to text) (ground_by set) trace s opens own after

-- `batch`: the runs of its text, in turn
abbrev pub Serves : RuleNumber → ℕ → List ℕ → Option (List Event) → Setting → List OpenSwap → LabState → List Event → After → Type 0
Serves rule moment text trace set opens s own after = DoesList (runs_in_turn rule moment) (JudgedBatch s text) (ground_by set) trace s opens own after

-- WHAT AN OPEN CONTROLLER DOES of a command, over the trace before that, where it is told
abbrev pub DoesCommand : RuleNumber → Command → Option (List Event) → Setting → List OpenSwap → LabState → List Event → After → Type 0
DoesCommand rule (commands.Play exp from to lines text) trace set opens s own after = Plays exp from to text trace set opens s own after
DoesCommand rule (commands.Batch moment lines text) trace set opens s own after = Serves rule moment text trace set opens s own after
DoesCommand rule commands.Audit trace set opens s own after = Audits trace s opens own after
DoesCommand rule command trace set opens s own after = DoesBy (JudgedBeside rule command) set opens s own after

-- THE LAB STEP, over the trace before it, where that is told, a plant that takes drills or not, and with a cost rule
abbrev pub LabStep : Terms → Option (List Event) → Setting → LabState → Session → Command → List Event → List Event → After → Type 0
LabStep terms trace set s session command opening own after = StepOf (drill_of command) (DoesCommand terms.rule command (with_more trace opening) set) terms s session opening own after
