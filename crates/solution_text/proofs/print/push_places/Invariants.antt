use Rattle.std.proofs.Common.{◌≡◌, true, ◌++◌, map, take}
use Rattle.std.specs.List.{zip}
use Rattle.line_text.specs.Printing.{text_of}
use Rattle.top_text.specs.Printable.{are_named}
use Rattle.solution_text.specs.CanonicalSolution.{place_fields}
use Rattle.solution_text.proofs.print.push_places.Given as goal

abbrev pub invariant-loop-virt : goal.invariant-loop-virt
invariant-loop-virt l = record {
  text : l.text ≡ l.initial.text ++ text_of (map (place_fields l.lab) (take l.virt (zip l.nodes l.places)));
  named : are_named (take l.virt l.nodes) ≡ true;
}
