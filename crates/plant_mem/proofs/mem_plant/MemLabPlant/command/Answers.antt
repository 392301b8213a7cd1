use Rattle.plant_mem.specs.Held.{held_of}
use Rattle.plant_mem.specs.Rooms.{can_command}
use Rattle.plant_mem.proofs.Commanding.{command_tells}
use Rattle.plant_mem.proofs.mem_plant.MemLabPlant.command.Goals as goal

pub returns-clause-trace : goal.returns-clause-trace
returns-clause-trace c =
    let self = c.args.self.now in
    command_tells (can_command self) c.args.op (held_of self) (held_of c.perform.new.self) c.perform.result c.perform.ensures.answer c.perform.ensures.held
