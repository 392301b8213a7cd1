use Rattle.plant.specs.DiskCalls.{missed}
use Rattle.plant_file.proofs.Telling.{keeps_missed, fits_kept, are_kept, sure_kept}
use Rattle.plant_file.proofs.lab_plant.FolderLabPlant.length.Goals as goal

pub invariant_of-self : goal.invariant_of-self
invariant_of-self g c =
    let self = c.args.self.now in
    let old = g.F.Folder.told self.folder in
    let new = g.F.Folder.told c.length-found.new.self in
    let keeps = keeps_missed old new c.args.side c.length-found.result c.length-found.ensures.told in
    record {
      fits = fits_kept old new keeps self.fits;
      kept_are = are_kept old new self.kept keeps self.kept_are;
      surely = sure_kept self.sure old new (missed c.args.side c.length-found.result) c.length-found.ensures.told self.surely;
    }
