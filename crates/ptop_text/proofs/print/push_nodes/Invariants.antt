use Rattle.std.proofs.Common.{◌≡◌, ◌++◌, map, take}
use Rattle.ptop_text.specs.Canonical.{node_line}
use Rattle.line_text.specs.Printing.{text_of}
use Rattle.ptop_text.proofs.print.push_nodes.Given as goal

abbrev pub invariant-loop-node : goal.invariant-loop-node
invariant-loop-node l = l.text ≡ l.initial.text ++ text_of (map node_line (take l.node-index l.nodes))
