use Rattle.std.proofs.Common.{◌≡◌, ◌++◌, true, take}
use Rattle.std.specs.List.{flat_map, list_all}
use Rattle.line_text.specs.Printing.{text_of}
use Rattle.top_text.specs.Printable.{named_place}
use Rattle.top_text.specs.Canonical.{fix_lines}
use Rattle.top_text.proofs.print.push_fixes.Given as goal

abbrev pub invariant-loop-node : goal.invariant-loop-node
invariant-loop-node l = record {
  text : l.text ≡ l.initial.text ++ text_of (flat_map fix_lines (take l.node-index l.nodes));
  named : list_all (λ v. named_place v.fixed) (take l.node-index l.nodes) ≡ true;
}
