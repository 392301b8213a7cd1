use Rattle.std.proofs.Common.{refl}
use Rattle.mem_folder.specs.MemTold.{filed_of}
use Rattle.mem_folder.proofs.mem_calls.MemFolderFolderFiles.write_beside.Goals as goal

pub returns-then-self-clause-told : goal.returns-then-self-clause-told
returns-then-self-clause-told c = let m = c.args.self.now in (filed_of m, refl, (m.texts.beside, refl))

pub returns-in-Err-clause-told : goal.returns-in-Err-clause-told
returns-in-Err-clause-told c = let m = c.args.self.now in (filed_of m, refl, (m.texts.beside, refl))
