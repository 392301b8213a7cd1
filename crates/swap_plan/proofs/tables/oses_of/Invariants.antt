use Rattle.std.proofs.Common.{◌≡◌, drop, map}
use Rattle.lab_model.specs.Courses.{node_names}
use Rattle.lab_model.specs.Wants.{os_on}
use Rattle.swap_plan.proofs.tables.oses_of.Given as goal

abbrev pub invariant-loop-virt : goal.invariant-loop-virt
invariant-loop-virt l = l.oses.items ≡ map (os_on l.lab (drop l.virt l.wiring.nodes) (drop l.virt l.mapping.places)) (node_names l.lab)
