use Rattle.lab_base.specs.Parts.{name_of}
use Rattle.lab_base.proofs.FieldLists.{one_more}
use Rattle.top_text.proofs.lines.all_names.Goals as goal

pub loop-field-preserved : goal.loop-field-preserved
loop-field-preserved c = one_more name_of c.loop-field.so_far c.in_ok-so_far.so_far _ c.name_in.result c.args.fields.now c.loop-field.field-index _ c.loop-field-test.true c.name_in.ensures c.in_ok-so_far.ensures c.loop-field.invariant
