use Rattle.std.proofs.Common.{◌≡◌, ◌++◌, true, take}
use Rattle.std.specs.List.{list_all}
use Rattle.lab_base.specs.Names.{is_name}
use Rattle.line_text.specs.Printing.{spaced}
use Rattle.top_text.proofs.print.push_names.Given as goal

abbrev pub invariant-loop-name : goal.invariant-loop-name
invariant-loop-name l = record {
  text : l.text ≡ l.initial.text ++ spaced (take l.name-index l.names);
  named : list_all is_name (take l.name-index l.names) ≡ true;
}
