use Rattle.std.proofs.Common.{◌≡◌, [], Ok, drop}
use Rattle.lab_base.specs.Texts.{views}
use Rattle.lab_base.specs.Parts.{all_of}
use Rattle.top_text.specs.Lines.{end_in_field}
use Rattle.top_text.proofs.lines.all_ends.Given as goal

abbrev pub invariant-loop-field : goal.invariant-loop-field
invariant-loop-field l = all_of end_in_field l.so_far (views (drop l.field-index l.fields)) ≡ all_of end_in_field (Ok []) (views l.fields)
