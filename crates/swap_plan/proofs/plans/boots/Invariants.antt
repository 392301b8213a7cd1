use Rattle.std.proofs.Common.{◌≡◌, map, take}
use Rattle.lab_model.specs.Courses.{node_names}
use Rattle.swap_plan.specs.Plans.{hosts_at}
use Rattle.swap_plan.proofs.plans.boots.Given as goal

abbrev pub invariant-loop-node : goal.invariant-loop-node
invariant-loop-node l = l.listed ≡ map (λ h. h.node) (hosts_at (take l.node (node_names l.lab)) (take l.node l.oses))
