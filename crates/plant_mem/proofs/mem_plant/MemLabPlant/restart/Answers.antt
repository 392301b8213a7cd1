use Rattle.plant_mem.specs.Held.{held_of}
use Rattle.plant_mem.proofs.Restarting.{restarts}
use Rattle.plant_mem.proofs.mem_plant.MemLabPlant.restart.Goals as goal

pub returns-clause-ok : goal.returns-clause-ok
returns-clause-ok c = restarts c.args.self.now (held_of c.start_again.new.self) c.start_again.result c.start_again.ensures.ok
