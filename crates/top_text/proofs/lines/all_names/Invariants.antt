use Rattle.std.proofs.Common.{◌≡◌, [], Ok, drop}
use Rattle.lab_base.specs.Texts.{views}
use Rattle.lab_base.specs.Parts.{all_of, name_of}
use Rattle.top_text.proofs.lines.all_names.Given as goal

abbrev pub invariant-loop-field : goal.invariant-loop-field
invariant-loop-field l = all_of name_of l.so_far (views (drop l.field-index l.fields)) ≡ all_of name_of (Ok []) (views l.fields)
