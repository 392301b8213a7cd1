use Rattle.std.proofs.Common.{◌≡◌, ◌++◌, true, map, take}
use Rattle.std.specs.List.{list_all}
use Rattle.line_text.specs.Printing.{text_of}
use Rattle.top_text.specs.Printable.{named_segment}
use Rattle.top_text.specs.Canonical.{link_fields}
use Rattle.top_text.proofs.print.push_links.Given as goal

abbrev pub invariant-loop-segment : goal.invariant-loop-segment
invariant-loop-segment l = record {
  text : l.text ≡ l.initial.text ++ text_of (map (link_fields l.wiring) (take l.segment-index l.segments));
  named : list_all named_segment (take l.segment-index l.segments) ≡ true;
}
