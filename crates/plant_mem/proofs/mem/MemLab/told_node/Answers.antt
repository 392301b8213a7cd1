use Rattle.std.proofs.Common.{◌∙◌, arith}
use Rattle.plant.specs.Worlds.{world_of}
use Rattle.plant_mem.specs.MemLab.{told_of}
use Rattle.plant_mem.proofs.Numbers.{count_is, counted_pipes}
use Rattle.plant_mem.proofs.mem.MemLab.told_node.Goals as goal

pub returns : goal.returns
returns c =
    let row = (world_of (told_of c.args.self.now).trace).node c.args.node in
    record {
      os = c.node_row.ensures.os;
      state = c.node_row.ensures.known;
      pipes = counted_pipes row 65536 c.node_row.result.pipes (λ k le. c.pipes_end-end.ensures.free c.args.node k (omega (arith, le, c.pipes_end-end.ensures.bound))) (c.node_row.ensures.pipes ∙ count_is row.pipes);
    }
