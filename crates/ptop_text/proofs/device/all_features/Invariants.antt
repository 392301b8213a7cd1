use Rattle.std.proofs.Common.{◌≡◌, [], Ok, drop}
use Rattle.lab_base.specs.Texts.{views}
use Rattle.lab_base.specs.Parts.{all_of}
use Rattle.ptop_text.specs.Lines.{feature_of}
use Rattle.ptop_text.proofs.device.all_features.Given as goal

abbrev pub invariant-loop-field : goal.invariant-loop-field
invariant-loop-field l = all_of feature_of l.so_far (views (drop l.field-index l.fields)) ≡ all_of feature_of (Ok []) (views l.fields)
