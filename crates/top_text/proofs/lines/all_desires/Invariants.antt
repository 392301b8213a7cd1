use Rattle.std.proofs.Common.{◌≡◌, [], Ok, drop}
use Rattle.lab_base.specs.Texts.{views}
use Rattle.lab_base.specs.Parts.{all_of}
use Rattle.top_text.specs.Lines.{weight_of}
use Rattle.top_text.proofs.lines.all_desires.Given as goal

abbrev pub invariant-loop-field : goal.invariant-loop-field
invariant-loop-field l = all_of weight_of l.so_far (views (drop l.field-index l.fields)) ≡ all_of weight_of (Ok []) (views l.fields)
