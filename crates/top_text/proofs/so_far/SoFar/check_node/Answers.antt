use Rattle.std.proofs.Common.{Result, subst}
use Rattle.lab_base.specs.declared.fault.Kind.{Kind}
use Rattle.virt_topo.specs.declared.wiring.Wiring.{Wiring}
use Rattle.line_text.specs.Refusals.{Takes}
use Rattle.std.proofs.Common.{◌++◌, ◌∷◌, []}
use Rattle.top_text.proofs.AddedLaws.{node_judged}
use Rattle.top_text.proofs.so_far.SoFar.check_node.Goals as goal

pub returns : goal.returns
returns c =
    let w = c.args.self.now.wiring in
    let more = record w { nodes = w.nodes ++ c.args.node.now ∷ [] } in
    subst (λ (r : Result Wiring Kind). Takes c.judge.result more r) (node_judged w c.args.self.now.tables c.args.node.now c.requires.asks.0 _ _ c.requires.reading.kept c.requires.reading.tables c.requires.asks.1 c.node_repeats.ensures c.node_fits.ensures) (c.judge.ensures more)
