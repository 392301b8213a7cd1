use Rattle.plant_file.proofs.Telling.{fits_kept, are_kept}
use Rattle.plant_file.proofs.lab_plant.FolderLabPlant.write.Goals as goal

pub invariant_of-self : goal.invariant_of-self
invariant_of-self g c =
    let self = c.args.self.now in
    let old = g.F.Folder.told self.folder in
    let new = g.F.Folder.told c.write-found.new.folder in
    record {
      fits = fits_kept old new c.write-found.ensures.keeps self.fits;
      kept_are = are_kept old new self.kept c.write-found.ensures.keeps self.kept_are;
      surely = c.write-found.ensures.surely;
    }
