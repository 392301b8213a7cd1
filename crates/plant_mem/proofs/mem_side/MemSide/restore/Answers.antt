use Rattle.plant_mem.specs.MemSides.{disk_of}
use Rattle.plant_mem.proofs.Images.{left_image}
use Rattle.plant_mem.proofs.mem_side.MemSide.restore.Goals as goal

pub returns-in-All-clause-possible : goal.returns-in-All-clause-possible
returns-in-All-clause-possible c = left_image c.args.pick (disk_of c.args.self.now) c.args.self.now.readable

pub returns-in-Torn-clause-possible : goal.returns-in-Torn-clause-possible
returns-in-Torn-clause-possible c = left_image c.args.pick (disk_of c.args.self.now) c.args.self.now.readable

pub returns-in-Nothing-clause-possible : goal.returns-in-Nothing-clause-possible
returns-in-Nothing-clause-possible c = left_image c.args.pick (disk_of c.args.self.now) c.args.self.now.readable
