use Rattle.std.proofs.Common.{arith}
use Rattle.plant_mem.specs.MemSides.{disk_of}
use Rattle.plant_mem.proofs.Images.{left_short}
use Rattle.plant_mem.proofs.past.most_of.Goals as goal

pub returns : goal.returns
returns c pick =
    let mem_side = c.args.mem_side.now in
    omega (arith, left_short pick (disk_of mem_side), c.most.ensures, c.len.ensures, c.len-2.ensures, mem_side.durable.ok.0, mem_side.reads.ok.0)
