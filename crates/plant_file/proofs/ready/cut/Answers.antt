use Rattle.std.proofs.Common.{◌∙◌, ap, Err, Option}
use Rattle.std.proofs.lemmas.Result.{err_from_is_err_and}
use Rattle.plant.specs.DiskCalls.{missed}
use Rattle.folder.specs.Folders.{Held, with_steps}
use Rattle.plant_file.proofs.Telling.{past_some_steps, keeps_missed, keeps_sure_steps, cut_still, refused_cut}
use Rattle.plant_file.proofs.ready.cut.Goals as goal

pub returns-in_err-make_sure-clause-trace : goal.returns-in_err-make_sure-clause-trace
returns-in_err-make_sure-clause-trace g c =
    let p = err_from_is_err_and c.from_residual.result c.from_residual.ensures.1 in
    let fault = c.in_err-make_sure.field-0.0 in
    rw (p.1, p.2) (
      missed {T = Unit {0}} c.args.side (Err fault),
      past_some_steps (g.F.Folder.told c.args.folder.now) (g.F.Folder.told c.make_sure.new.folder) (missed {T = Unit {0}} c.args.side (Err fault)) c.in_err-make_sure.ensures.err,
      refused_cut c.args.side c.args.size (g.F.Folder.is_stopped c.args.folder.now) fault c.in_err-make_sure.ensures.rests,
    )

pub returns-in_err-make_sure-clause-keeps : goal.returns-in_err-make_sure-clause-keeps
returns-in_err-make_sure-clause-keeps g c =
    keeps_missed {T = Unit {0}} (g.F.Folder.told c.args.folder.now) (g.F.Folder.told c.make_sure.new.folder) c.args.side (Err c.in_err-make_sure.field-0.0) c.in_err-make_sure.ensures.err

pub returns-clause-keeps : goal.returns-clause-keeps
returns-clause-keeps g c =
    let t = c.cut.ensures.told in
    keeps_sure_steps (g.F.Folder.told c.args.folder.now) (g.F.Folder.told c.cut.new.self) t.0
    (cut_still c.args.side c.args.size _ c.cut.result t.0 t.2)
    (t.1 ∙ ap (λ (o : Option Held). with_steps o t.0) c.in_ok-make_sure.ensures.ok)
