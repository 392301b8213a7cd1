-- A lab has at most 16,384 interfaces: at most 16 on each of at most 1,024 nodes.
use Rattle.std.proofs.Common.{ℕ, ◌<◌, eqb, List, ◌&&◌, Option, Some, None, arith}
use Rattle.std.specs.Prelude.{IfSome}
use Rattle.lab_base.specs.Names.{same_name}
use Rattle.phys_lab.specs.Labs.{Lab}
use Rattle.phys_lab.specs.Kept.{IsLab}
use Rattle.phys_lab.proofs.IfaceCount.{few_ifaces}
use Rattle.solution_text.specs.Solutions.{iface_on, iface_by}
use Rattle.solution_text.proofs.Places.{also_some, place_below}

pub iface_fits : (lab : Lab) (name : List ℕ) (node : Option ℕ) → IsLab lab → IfSome (iface_by lab name node) (λ i. i < 65536)
iface_fits lab name None is = tt
iface_fits lab name (Some node) is = also_some (iface_on lab node name) (place_below (λ i. eqb node i.node.0 && same_name name i.name) lab.ifaces) (λ i lt. omega (arith, lt, few_ifaces lab is))
