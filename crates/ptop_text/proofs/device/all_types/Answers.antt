use Rattle.ptop_text.specs.Lines.{type_of}
use Rattle.lab_base.proofs.FieldLists.{one_more}
use Rattle.ptop_text.proofs.device.all_types.Goals as goal

pub loop-field-preserved : goal.loop-field-preserved
loop-field-preserved c = one_more type_of c.loop-field.so_far c.in_ok-so_far.so_far _ c.type_in.result c.args.fields.now c.loop-field.field-index _ c.loop-field-test.true c.type_in.ensures c.in_ok-so_far.ensures c.loop-field.invariant
