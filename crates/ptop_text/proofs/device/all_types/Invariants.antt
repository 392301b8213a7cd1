use Rattle.std.proofs.Common.{◌≡◌, [], Ok, drop}
use Rattle.lab_base.specs.Texts.{views}
use Rattle.lab_base.specs.Parts.{all_of}
use Rattle.ptop_text.specs.Lines.{type_of}
use Rattle.ptop_text.proofs.device.all_types.Given as goal

abbrev pub invariant-loop-field : goal.invariant-loop-field
invariant-loop-field l = all_of type_of l.so_far (views (drop l.field-index l.fields)) ≡ all_of type_of (Ok []) (views l.fields)
