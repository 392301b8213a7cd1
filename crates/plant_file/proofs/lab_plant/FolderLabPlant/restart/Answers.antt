use Rattle.plant_file.proofs.Telling.{keeps_start, sure_start, fits_kept, are_kept}
use Rattle.plant_file.proofs.lab_plant.FolderLabPlant.restart.Goals as goal

pub invariant_of-self : goal.invariant_of-self
invariant_of-self g c =
    let self = c.args.self.now in
    let old = g.F.Folder.told self.folder in
    let new = g.F.Folder.told c.restart.new.self in
    let was = g.F.Folder.is_stopped self.folder in
    let is = g.F.Folder.is_stopped c.restart.new.self in
    let keeps = keeps_start was is c.restart.result old new c.restart.ensures.ok c.restart.ensures.err in
    record {
      fits = fits_kept old new keeps self.fits;
      kept_are = are_kept old new self.kept keeps self.kept_are;
      surely = sure_start self.sure was is c.restart.result old new c.restart.ensures.ok c.restart.ensures.err self.surely;
    }
