-- A node's pipe, as contracts see it.
use Rattle.plant.specs.Worlds.{PipeRow}
use Rattle.swap_plan.specs.declared.nodes.NodePipe.TheInside.{Inside}

abbrev pub pipe_of : Inside → PipeRow
pipe_of p = record { from = p.from; to = p.to; there = p.there; back = p.back }
