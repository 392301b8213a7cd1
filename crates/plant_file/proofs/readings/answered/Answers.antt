use Rattle.plant_file.proofs.ReadingsTold.{steps_none}
use Rattle.plant_file.proofs.readings.answered.Goals as goal

pub returns-in-Ok-clause-told : goal.returns-in-Ok-clause-told
returns-in-Ok-clause-told g c = steps_none (g.F.Folder.told c.args.folder.now)
