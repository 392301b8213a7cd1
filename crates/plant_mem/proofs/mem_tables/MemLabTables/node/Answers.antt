use Rattle.plant.specs.Worlds.{world_of}
use Rattle.plant.specs.Readings.{TellsNode}
use Rattle.plant_mem.specs.Held.{held_of}
use Rattle.plant_mem.specs.MemLab.{told_of}
use Rattle.plant_mem.specs.Readings.{fails_reading}
use Rattle.plant_mem.specs.Rooms.{can_step}
use Rattle.plant_mem.proofs.Reading.{told}
use Rattle.plant_mem.proofs.mem_tables.MemLabTables.node.Goals as goal

pub returns-clause-node : goal.returns-clause-node
returns-clause-node c =
    let self = c.args.self.now in
    let found = c.told_node-found.ensures in
    told (TellsNode ((world_of (told_of self).trace).node c.args.node)) (fails_reading (can_step self) c.args.node (held_of self)) c.told_node-found.result c.end_reading.result c.end_reading.ensures.answer
    (record { os = found.os; state = found.state; pipes = found.pipes })
