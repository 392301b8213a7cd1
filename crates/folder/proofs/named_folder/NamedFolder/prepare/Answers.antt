use Rattle.folder.specs.Files.{as_held}
use Rattle.folder.proofs.Filing.{sure_after, written_told}
use Rattle.folder.proofs.named_folder.NamedFolder.prepare.Goals as goal

pub returns-clause-told : goal.returns-clause-told
returns-clause-told g c =
    let told = g.F.FolderFiles.told in
    let mid = c.find_durable.new.self in
    let new = told c.write_beside.new.self in
    sure_after (as_held (told c.args.self.now.files)) (as_held (told c.has_tables.new.self.files)) (as_held (told mid.files)) (as_held new) c.has_tables.ensures.told c.find_durable.ensures.told
    (written_told c.args.text.now c.write_beside.result (told mid.files) new (mid.is_there c.find_durable.ensures.there) c.write_beside.ensures.told)
