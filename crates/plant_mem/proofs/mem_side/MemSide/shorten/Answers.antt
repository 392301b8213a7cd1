use Rattle.std.proofs.Common.{arith}
use Rattle.plant_mem.specs.MemSides.{disk_of}
use Rattle.plant.proofs.Images.{shortened_image}
use Rattle.plant_mem.proofs.Alike.{before_cut}
use Rattle.plant_mem.proofs.mem_side.MemSide.shorten.Goals as goal

pub invariant_of-self-clause-alike : goal.invariant_of-self-clause-alike
invariant_of-self-clause-alike c =
    let self = c.args.self.now in
    rw c.truncate.ensures.items (before_cut self.durable.items self.reads.items c.args.size self.same c.least-self.result (omega arith) (omega arith) self.alike)

pub invariant_of-self-clause-readable : goal.invariant_of-self-clause-readable
invariant_of-self-clause-readable c =
    let self = c.args.self.now in
    rw c.truncate.ensures.items (shortened_image (disk_of self) c.args.size self.readable)
