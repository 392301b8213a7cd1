use Rattle.lab_base.proofs.FieldLists.{one_more}
use Rattle.top_text.specs.Lines.{end_in_field}
use Rattle.top_text.proofs.lines.all_ends.Goals as goal

pub loop-field-preserved : goal.loop-field-preserved
loop-field-preserved c = one_more end_in_field c.loop-field.so_far c.in_ok-so_far.so_far _ c.end_in.result c.args.fields.now c.loop-field.field-index _ c.loop-field-test.true c.end_in.ensures c.in_ok-so_far.ensures c.loop-field.invariant
