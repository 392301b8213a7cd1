-- The fault of a line, for a fault of the builder of labs.
use Rattle.std.specs.Prelude.{ℕ, List}
use Rattle.line_text.specs.declared.line_fault.LineFault.{LineFault}
use Rattle.line_text.specs.declared.line_fault.LineFault.TheVariants as line_faults
use Rattle.phys_lab.specs.Labs.{Lab}
use Rattle.phys_lab.specs.declared.fault.LabFault.{LabFault}
use Rattle.phys_lab.specs.declared.fault.LabFault.TheVariants as faults
use Rattle.ptop_text.specs.Adding.{kind_of, link_kind}

abbrev pub refusal_of : LabFault → LineFault
refusal_of faults.Memory = line_faults.Memory
refusal_of fault = line_faults.Kind (kind_of fault)

-- of a link between two ends
abbrev pub link_refusal : Lab → List ℕ → List ℕ → LabFault → LineFault
link_refusal lab first second faults.Memory = line_faults.Memory
link_refusal lab first second fault = line_faults.Kind (link_kind lab first second fault)
