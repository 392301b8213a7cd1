use Rattle.std.proofs.Common.{refl}
use Rattle.std_folder.proofs.Untold.{sync_steps}
use Rattle.std_folder.proofs.std_folder.StdFolderFolderFiles.sync.Goals as goal

pub returns-clause-told : goal.returns-clause-told
returns-clause-told g c = let made = sync_steps c.args.side c.of.result c.of.ensures in (made.0, refl, made.1)
