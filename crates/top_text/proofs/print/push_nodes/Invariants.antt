use Rattle.std.proofs.Common.{◌≡◌, ◌++◌, true, map, take}
use Rattle.std.specs.List.{list_all}
use Rattle.line_text.specs.Printing.{text_of}
use Rattle.top_text.specs.Printable.{named_node}
use Rattle.top_text.specs.Canonical.{node_fields}
use Rattle.top_text.proofs.print.push_nodes.Given as goal

abbrev pub invariant-loop-node : goal.invariant-loop-node
invariant-loop-node l = record {
  text : l.text ≡ l.initial.text ++ text_of (map (node_fields l.wiring) (take l.node-index l.nodes));
  named : list_all named_node (take l.node-index l.nodes) ≡ true;
}
