use Rattle.plant.specs.Readings.{unread}
use Rattle.plant_file.proofs.Telling.{keeps_unread, fits_kept, are_kept, sure_kept}
use Rattle.plant_file.proofs.lab_tables.FolderLabTables.node.Goals as goal

pub invariant_of-self : goal.invariant_of-self
invariant_of-self g c =
    let self = c.args.self.now in
    let old = g.F.Folder.told self.folder in
    let new = g.F.Folder.told c.read_node-found.new.folder in
    let keeps = keeps_unread old new c.args.node c.read_node-found.result c.read_node-found.ensures.told in
    record {
      fits = fits_kept old new keeps self.fits;
      kept_are = are_kept old new c.read_node-found.new.kept keeps c.read_node-found.ensures.kept;
      surely = sure_kept self.sure old new (unread c.args.node c.read_node-found.result) c.read_node-found.ensures.told self.surely;
    }
