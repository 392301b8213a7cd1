use Rattle.std.proofs.Common.{None, take}
use Rattle.std.specs.Prelude.{IfSome}
use Rattle.plant.specs.Worlds.{world_of}
use Rattle.lab_model.specs.Courses.{node_names}
use Rattle.lab_audit.specs.Diff.{AreDiffering, IsKnown}
use Rattle.lab_audit.specs.Reads.{Reads}
use Rattle.lab_audit.proofs.Comparing.{AreOfNodes}
use Rattle.lab_audit.proofs.node_lines.node_lines.Given as goal

abbrev pub invariant-loop-node : goal.invariant-loop-node
invariant-loop-node g l = record {
  so_far : Reads (g.P.Plant.seen l.fn.plant) (g.P.Plant.seen l.plant) None;
  of_nodes : AreOfNodes l.nodes;
  lines : IfSome (g.P.Plant.seen l.fn.plant).told (λ t. IsKnown l.lab l.state.state.experiments (world_of t.trace) → AreDiffering l.lab l.state.state.experiments (world_of t.trace) (take l.node (node_names l.lab)) l.nodes);
}
