use Rattle.std.proofs.Common.{refl}
use Rattle.std_folder.proofs.Untold.{write_steps}
use Rattle.std_folder.proofs.std_folder.StdFolderFolderFiles.write.Goals as goal

pub returns-clause-told : goal.returns-clause-told
returns-clause-told g c = let made = write_steps c.args.side c.args.at c.args.bytes.now c.of.result c.of.ensures in (made.0, refl, made.1)
