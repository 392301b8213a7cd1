use Rattle.plant_mem.specs.MemSides.{disk_of}
use Rattle.plant_mem.proofs.Images.{torn_image}
use Rattle.plant_mem.proofs.mem_side.MemSide.shred.Goals as goal

pub invariant_of-self-clause-readable : goal.invariant_of-self-clause-readable
invariant_of-self-clause-readable c =
    let self = c.args.self.now in
    rw (c.tear.ensures.torn, c.deref.ensures.value) (torn_image (disk_of self) self.readable)
