use Rattle.line_text.proofs.PrintLaws.{text_more}
use Rattle.top_text.specs.Printable.{named_class}
use Rattle.top_text.specs.Canonical.{class_fields}
use Rattle.line_text.proofs.ListLaws.{all_next}
use Rattle.top_text.proofs.print.push_classes.Goals as goal

pub loop-class-preserved : goal.loop-class-preserved
loop-class-preserved c = record {
  text = text_more class_fields c.args.classes.now c.loop-class.class-index c.class-item.result c.args.text.now c.loop-class.text c.push_class.new.text c.loop-class-test.true c.class-item.is c.loop-class.invariant.text c.in_ok-push_class.ensures.text;
  named = all_next named_class c.args.classes.now c.loop-class.class-index c.class-item.result c.loop-class-test.true c.class-item.is c.loop-class.invariant.named c.in_ok-push_class.ensures.named;
}
