use Rattle.std.proofs.Common.{◌≡◌, ◌++◌, true, map, take}
use Rattle.std.specs.List.{list_all}
use Rattle.lab_base.specs.Names.{is_name}
use Rattle.line_text.specs.Printing.{spaced, with_number}
use Rattle.top_text.proofs.print.push_desires.Given as goal

abbrev pub invariant-loop-desire : goal.invariant-loop-desire
invariant-loop-desire l = record {
  text : l.text ≡ l.initial.text ++ spaced (map with_number (take l.desire-index l.desires));
  named : list_all (λ d. is_name d.0) (take l.desire-index l.desires) ≡ true;
}
