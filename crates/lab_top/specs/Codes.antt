-- The exit code of each status.
use Rattle.std.specs.Prelude.{ℕ}
use Rattle.lab_top.specs.declared.status.Status.{Status}
use Rattle.lab_top.specs.declared.status.Status.TheVariants.{Done, ReadFault, WriteFault, Usage, BadScript, Memory, JournalBad}

abbrev pub code_of : Status → ℕ
code_of Done = 0
code_of ReadFault = 1
code_of WriteFault = 2
code_of Usage = 3
code_of (BadScript line) = 4
code_of Memory = 5
code_of (JournalBad side at) = 6
