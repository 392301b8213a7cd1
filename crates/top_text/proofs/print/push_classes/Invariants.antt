use Rattle.std.proofs.Common.{◌≡◌, ◌++◌, true, map, take}
use Rattle.std.specs.List.{list_all}
use Rattle.line_text.specs.Printing.{text_of}
use Rattle.top_text.specs.Printable.{named_class}
use Rattle.top_text.specs.Canonical.{class_fields}
use Rattle.top_text.proofs.print.push_classes.Given as goal

abbrev pub invariant-loop-class : goal.invariant-loop-class
invariant-loop-class l = record {
  text : l.text ≡ l.initial.text ++ text_of (map class_fields (take l.class-index l.classes));
  named : list_all named_class (take l.class-index l.classes) ≡ true;
}
