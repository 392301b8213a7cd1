use Rattle.std.proofs.Common.{Result, subst}
use Rattle.lab_base.specs.declared.fault.Kind.{Kind}
use Rattle.virt_topo.specs.declared.wiring.Wiring.{Wiring}
use Rattle.line_text.specs.Refusals.{Takes}
use Rattle.top_text.specs.Adding.{with_class}
use Rattle.top_text.proofs.AddedLaws.{class_judged}
use Rattle.top_text.proofs.so_far.SoFar.check_class.Goals as goal

pub returns : goal.returns
returns c =
    let w = c.args.self.now.wiring in
    let more = with_class w c.args.class.now in
    subst (λ (r : Result Wiring Kind). Takes c.judge.result more r) (class_judged w c.args.self.now.tables c.args.class.now _ _ c.requires.kept c.requires.tables c.class_repeats.ensures c.class_fits.ensures) (c.judge.ensures more)
