use Rattle.std.proofs.Common.{Some, ap, sym, ◌∙◌}
use Rattle.plant_mem.proofs.NodeLaws.{node_found, node_not_found}
use Rattle.plant_mem.proofs.nodes.entry_of.Goals as goal

pub returns-in-Ok : goal.returns-in-Ok
returns-in-Ok c = ap Some c.index-nodes-at.is ∙ sym (node_found c.args.nodes.now c.requires c.args.node.now c.in-Ok.at c.index-nodes-at.result c.in-Ok.ensures.bound c.in-Ok.ensures.place)

pub returns-in-Err : goal.returns-in-Err
returns-in-Err c = sym (node_not_found c.args.nodes.now c.requires c.args.node.now c.in-Err.field-0 c.in-Err.ensures.place)
