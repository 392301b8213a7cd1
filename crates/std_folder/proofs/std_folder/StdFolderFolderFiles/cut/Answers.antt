use Rattle.std.proofs.Common.{refl}
use Rattle.std_folder.proofs.Untold.{cut_steps}
use Rattle.std_folder.proofs.std_folder.StdFolderFolderFiles.cut.Goals as goal

pub returns-clause-told : goal.returns-clause-told
returns-clause-told g c = let made = cut_steps c.args.side c.args.size c.of.result c.of.ensures in (made.0, refl, made.1)
