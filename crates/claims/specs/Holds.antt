-- The claim of one mapping, and that of an experiment.
use Rattle.std.specs.Prelude.{map, length, Option, None, Some}
use Rattle.std.specs.List.{range_with_len}
use Rattle.phys_lab.specs.Labs.{Lab}
use Rattle.virt_topo.specs.declared.mapping.Mapped.{Mapped}
use Rattle.virt_topo.specs.declared.experiment.Experiment.{Experiment}
use Rattle.lab_model.specs.Uses.{use_of}
use Rattle.lab_model.specs.Claims.{Old, New, claimed}
use Rattle.claims.specs.declared.hold.Hold.{Hold}
use Rattle.claims.specs.declared.claim.Claim.{Claim}

-- the node of each virtual node, the plugs, the use of each trunk, and the VLAN ids
abbrev pub hold_of : Lab → Mapped → Hold
hold_of lab m = record {
  nodes = map (λ p. p.0) m.mapping.places;
  plugs = m.mapping.plugs;
  uses = map (use_of lab m.wiring m.mapping) (range_with_len 0 (length lab.trunks));
  tags = m.tags;
}

abbrev pub hold_in : Lab → Option Mapped → Option Hold
hold_in lab None = None
hold_in lab (Some m) = Some (hold_of lab m)

-- THE CLAIM OF AN EXPERIMENT
abbrev pub claim_of : Lab → Experiment → Claim
claim_of lab e = record { old = hold_in lab (claimed e Old); new = hold_in lab (claimed e New) }
