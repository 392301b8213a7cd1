use Rattle.std.proofs.Common.{refl}
use Rattle.plant.specs.Worlds.{world_of}
use Rattle.plant_file.specs.Holding.{world_in}
use Rattle.plant_file.proofs.Commanded.{known_by}
use Rattle.plant_file.proofs.ReadingsTold.{told_after, told_by}
use Rattle.plant_file.proofs.WorldsTold.{node_known}
use Rattle.plant_file.proofs.readings.read_node.Goals as goal

pub returns-clause-told : goal.returns-clause-told
returns-clause-told g c =
    told_after c.args.node c.in_ok-tables.tables c.answered.result (g.F.Folder.told c.args.folder.now) (g.F.Folder.told c.tables_for.new.folder) (g.F.Folder.told c.answered.new.folder) c.in_ok-tables.ensures.told c.answered.ensures.told

pub returns-clause-node : goal.returns-clause-node
returns-clause-node g c = λ h some.
    let tables = c.in_ok-tables.tables in
    let known = known_by h tables (c.in_ok-tables.ensures.tables tables refl h some) (c.requires.fits h some).fits in
    told_by c.answered.result c.node_of-found.result _ _ c.answered.ensures.found c.node_of-found.ensures (λ found. node_known (world_in tables) (world_of h.past.trace) known c.args.node found)
