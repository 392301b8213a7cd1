use Rattle.std.proofs.Common.{List, sym, subst}
use Rattle.phys_lab.specs.declared.parts.Node.{Node}
use Rattle.solution_text.specs.Names.{IsNode}
use Rattle.solution_text.proofs.OwnNames.{node_found}
use Rattle.solution_text.proofs.near.find_node.Goals as goal

pub returns-in-Some : goal.returns-in-Some
returns-in-Some c =
    sym (node_found c.args.lab.now c.range-kept.ensures.lab c.args.name c.in-Some.number
    (subst (λ (l : List Node). IsNode l c.args.name c.in-Some.number) c.nodes.ensures c.in-Some.ensures))
