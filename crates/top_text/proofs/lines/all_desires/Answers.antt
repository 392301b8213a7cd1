use Rattle.lab_base.proofs.FieldLists.{one_more}
use Rattle.top_text.specs.Lines.{weight_of}
use Rattle.top_text.proofs.lines.all_desires.Goals as goal

pub loop-field-preserved : goal.loop-field-preserved
loop-field-preserved c = one_more weight_of c.loop-field.so_far c.in_ok-so_far.so_far _ c.numbered_weight.result c.args.fields.now c.loop-field.field-index _ c.loop-field-test.true c.numbered_weight.ensures c.in_ok-so_far.ensures c.loop-field.invariant
