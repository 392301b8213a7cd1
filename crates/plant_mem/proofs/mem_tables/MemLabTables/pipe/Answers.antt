use Rattle.plant.specs.Worlds.{world_of}
use Rattle.plant.specs.Readings.{TellsPipe}
use Rattle.plant_mem.specs.Held.{held_of}
use Rattle.plant_mem.specs.MemLab.{told_of}
use Rattle.plant_mem.specs.Readings.{fails_reading}
use Rattle.plant_mem.specs.Rooms.{can_step}
use Rattle.plant_mem.proofs.Reading.{told}
use Rattle.plant_mem.proofs.mem_tables.MemLabTables.pipe.Goals as goal

pub returns-clause-pipe : goal.returns-clause-pipe
returns-clause-pipe c =
    let self = c.args.self.now in
    told (TellsPipe ((world_of (told_of self).trace).node c.args.node) c.args.nth) (fails_reading (can_step self) c.args.node (held_of self)) c.nth_pipe-found.result c.end_reading.result c.end_reading.ensures.answer c.nth_pipe-found.ensures.tells
