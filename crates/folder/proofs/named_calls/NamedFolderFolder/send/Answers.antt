use Rattle.std.proofs.Common.{Ok, Err, ap, refl, sym, ◌∙◌}
use Rattle.std.proofs.lemmas.Result.{err_from_is_err_and}
use Rattle.folder.specs.Files.{as_held}
use Rattle.folder.proofs.Filing.{renamed_sent, runs_by}
use Rattle.folder.proofs.named_calls.NamedFolderFolder.send.Goals as goal

pub returns-in_err-rename-in-Ok-clause-told : goal.returns-in_err-rename-in-Ok-clause-told
returns-in_err-rename-in-Ok-clause-told g c =
    let p = err_from_is_err_and c.from_residual.result c.from_residual.ensures.1 in
    let told = g.F.FolderFiles.told in
    let stopped = g.F.FolderFiles.is_stopped in
    let mid = c.prepare.new.self.files in
    let new = told c.rename.new.self in
    rw (p.1, p.2) (renamed_sent c.args.op.now c.args.answer c.eq-keep.result (stopped c.args.self.now.files) (stopped mid) c.args.text.now (Err c.in_err-rename-in-Ok.field-0.0) (as_held (told c.args.self.now.files)) (told mid) new (as_held new)
    (sym c.stopped.ensures ∙ c.if-stopped.false) (runs_by (stopped mid) c.in-Ok.ensures.stopped) c.in-Ok.ensures.told c.in-Ok.ensures.beside c.in-Ok.ensures.whole c.in_err-rename-in-Ok.ensures.told refl)

pub returns-in_ok-rename-in-Ok-clause-told : goal.returns-in_ok-rename-in-Ok-clause-told
returns-in_ok-rename-in-Ok-clause-told g c =
    let told = g.F.FolderFiles.told in
    let stopped = g.F.FolderFiles.is_stopped in
    let mid = c.prepare.new.self.files in
    renamed_sent c.args.op.now c.args.answer c.eq-keep.result (stopped c.args.self.now.files) (stopped mid) c.args.text.now (Ok tt) (as_held (told c.args.self.now.files)) (told mid) (told c.rename.new.self) (as_held (told c.stamp-self.new.self))
    (sym c.stopped.ensures ∙ c.if-stopped.false) (runs_by (stopped mid) c.in-Ok.ensures.stopped) c.in-Ok.ensures.told c.in-Ok.ensures.beside c.in-Ok.ensures.whole c.in_ok-rename-in-Ok.ensures.told (ap as_held c.stamp-self.ensures.told)
