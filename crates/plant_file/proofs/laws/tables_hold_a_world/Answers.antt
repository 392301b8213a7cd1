use Rattle.plant_file.proofs.NodesHold.{holds_worlds}
use Rattle.plant_file.proofs.laws.tables_hold_a_world.Goals as goal

pub returns : goal.returns
returns c = holds_worlds
