-- The answers of readers of lines and texts.
use Rattle.std.specs.Prelude.{◌≡◌, ℕ, Result, Ok, Err}
use Rattle.lab_base.specs.declared.fault.Kind.{Kind}
use Rattle.lab_base.specs.declared.fault.TextFault.{TextFault}
use Rattle.lab_base.specs.declared.fault.TextRefused.{TextRefused}
use Rattle.lab_base.specs.declared.fault.TextRefused.TheVariants as refusals
use Rattle.line_text.specs.declared.line_fault.LineFault.{LineFault}
use Rattle.line_text.specs.declared.line_fault.LineFault.TheVariants as line_faults

-- a line was taken, and gave what is so far; or it has this fault; or Memory
abbrev pub Takes : {S U : Type 0} → Result U LineFault → S → Result S Kind → Type 0
Takes (Ok u) new read = read ≡ Ok new
Takes (Err (line_faults.Kind kind)) new read = read ≡ Err kind
Takes (Err line_faults.Memory) new read = Unit {0}

-- what a text's reader answers for a line's fault
abbrev pub refused_at : ℕ → LineFault → TextRefused
refused_at line (line_faults.Kind kind) = refusals.Text (record { line = line; kind = kind })
refused_at line line_faults.Memory = refusals.Memory

-- a reader's answer over what it read into
abbrev pub ReadsInto : {S U : Type 0} → Result U TextRefused → S → Result S TextFault → Type 0
ReadsInto (Ok u) new read = read ≡ Ok new
ReadsInto (Err (refusals.Text fault)) new read = read ≡ Err fault
ReadsInto (Err refusals.Memory) new read = Unit {0}

-- a reader answers what the text gives, or Memory
abbrev pub Reads : {X : Type 0} → Result X TextRefused → Result X TextFault → Type 0
Reads (Ok x) read = read ≡ Ok x
Reads (Err (refusals.Text fault)) read = read ≡ Err fault
Reads (Err refusals.Memory) read = Unit {0}
