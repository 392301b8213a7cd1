use Rattle.std.proofs.Common.{◌≡◌, ◌++◌, true, map, take}
use Rattle.std.specs.List.{list_all}
use Rattle.line_text.specs.Printing.{spaced}
use Rattle.top_text.specs.Printable.{is_address}
use Rattle.top_text.specs.Canonical.{end_field}
use Rattle.top_text.proofs.print.push_ends.Given as goal

abbrev pub invariant-loop-end : goal.invariant-loop-end
invariant-loop-end l = record {
  text : l.text ≡ l.initial.text ++ spaced (map (end_field l.wiring) (take l.end-index l.ends));
  named : list_all (λ e. is_address e.address) (take l.end-index l.ends) ≡ true;
}
