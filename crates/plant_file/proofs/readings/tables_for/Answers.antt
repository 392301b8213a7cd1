use Rattle.std.proofs.Common.{[], ◌∷◌, Option, ap, ◌∙◌}
use Rattle.plant.specs.Events.{Unread}
use Rattle.folder.specs.Folders.{Held, with_steps}
use Rattle.plant_file.proofs.ReadingsTold.{told_still}
use Rattle.plant_file.proofs.readings.tables_for.Goals as goal

pub returns-in-Ok-clause-told : goal.returns-in-Ok-clause-told
returns-in-Ok-clause-told g c = told_still c.args.device c.in-Ok.tables (g.F.Folder.told c.args.folder.now) (g.F.Folder.told c.take_tables.new.folder) c.in-Ok.ensures.told

pub returns-in-Err-clause-told : goal.returns-in-Err-clause-told
returns-in-Err-clause-told g c = c.unread.ensures.told ∙ ap (λ (h : Option Held). with_steps h (Unread c.args.device ∷ [])) c.in-Err.ensures.told
