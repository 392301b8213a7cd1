use Rattle.std.proofs.Common.{Result, subst}
use Rattle.lab_base.specs.declared.fault.Kind.{Kind}
use Rattle.virt_topo.specs.declared.wiring.Wiring.{Wiring}
use Rattle.line_text.specs.Refusals.{Takes}
use Rattle.top_text.specs.Adding.{with_pipe}
use Rattle.top_text.proofs.AddedLaws.{pipe_judged}
use Rattle.top_text.proofs.so_far.SoFar.check_pipe.Goals as goal

pub returns : goal.returns
returns c =
    let w = c.args.self.now.wiring in
    let more = with_pipe w c.args.pipe.now in
    subst (λ (r : Result Wiring Kind). Takes c.judge.result more r) (pipe_judged w c.args.self.now.tables c.args.pipe.now _ _ _ c.requires.kept c.requires.tables c.knows_pipe.ensures c.is_bad_pipe.ensures c.limits_pipe.ensures) (c.judge.ensures more)
