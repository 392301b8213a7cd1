use Rattle.plant_file.proofs.Telling.{keeps_marked, sure_marked, fits_kept, are_kept}
use Rattle.plant_file.proofs.lab_plant.FolderLabPlant.mark.Goals as goal

pub invariant_of-self : goal.invariant_of-self
invariant_of-self g c =
    let self = c.args.self.now in
    let old = g.F.Folder.told self.folder in
    let new = g.F.Folder.told c.mark.new.self in
    let keeps = keeps_marked c.mark.result old new self.faults c.mark.ensures.ok c.mark.ensures.err in
    record {
      fits = fits_kept old new keeps self.fits;
      kept_are = are_kept old new self.kept keeps self.kept_are;
      surely = sure_marked self.sure c.mark.result old new self.faults c.mark.ensures.ok c.mark.ensures.err self.surely;
    }
