-- Faults of splitting, as the ends of an evaluation.
use Rattle.lab_base.specs.declared.fault.TextRefused.{TextRefused}
use Rattle.lab_base.specs.declared.fault.TextRefused.TheVariants as refused
use Rattle.tcl_words.specs.declared.flaw.Broken.{Broken}
use Rattle.tcl_words.specs.declared.flaw.Broken.TheVariants as broken
use Rattle.tcl_eval.specs.declared.halts.Halt.{Halt}
use Rattle.tcl_eval.specs.declared.halts.Halt.TheVariants as halts

-- a fault of words
abbrev pub broken_halt : Broken → Halt
broken_halt (broken.Flaw flaw) = halts.Fault flaw.kind
broken_halt broken.Memory = halts.Memory

-- a fault of a text
abbrev pub refused_halt : TextRefused → Halt
refused_halt (refused.Text fault) = halts.Fault fault.kind
refused_halt refused.Memory = halts.Memory
