use Rattle.std.proofs.Common.{◌∙◌}
use Rattle.swap_plan.proofs.TableLaws.{pipes_there}
use Rattle.swap_plan.proofs.loads.push_loads.Goals as goal

pub push_host-requires-clause-pipes : goal.push_host-requires-clause-pipes
push_host-requires-clause-pipes c =
    pipes_there c.args.lab.now c.args.wiring.now c.args.mapping.now c.args.table.now.pipes.items c.args.node c.node_name-name.result c.index.result.now c.as_slice-pipes.result.now c.requires.table.pipes
    c.requires.node c.node_name-name.ensures (c.as_slice-pipes.ensures ∙ c.index.ensures)
