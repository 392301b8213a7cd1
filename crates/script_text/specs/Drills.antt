-- The drill of a command.
use Rattle.std.specs.Prelude.{Option, Some, None}
use Rattle.plant.specs.declared.drill.Drill.{Drill}
use Rattle.plant.specs.declared.drill.Drill.TheVariants as drills
use Rattle.script_text.specs.declared.command.Command.{Command}
use Rattle.script_text.specs.declared.command.Command.TheVariants.{Fail, FailDisk, Stop}

-- the failure that a command plans, if it is a drill
abbrev pub drill_of : Command → Option Drill
drill_of (Fail device nth how) = Some (drills.Device device nth how)
drill_of (FailDisk nth) = Some (drills.Disk nth)
drill_of (Stop nth pick) = Some (drills.Stop nth pick)
drill_of command = None
