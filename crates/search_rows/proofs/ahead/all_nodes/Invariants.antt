use Rattle.std.proofs.Common.{◌<◌, All, length}
use Rattle.lab_base.specs.declared.ids.NodeId.{NodeId}
use Rattle.lab_base.specs.Lists.{Has, AllDiffer}
use Rattle.search_rows.proofs.ahead.all_nodes.Given as goal

abbrev pub invariant-loop-n : goal.invariant-loop-n
invariant-loop-n l = record {
  below : (node : NodeId) → Has l.nodes.items node → node.0 < l.n;
  differ : AllDiffer l.nodes.items;
  of_lab : All (λ node. node.0 < length l.lab.nodes) l.nodes.items;
}
