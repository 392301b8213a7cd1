use Rattle.std.proofs.Common.{Ok, Err, refl, ◌∙◌}
use Rattle.std.proofs.lemmas.Result.{err_from_is_err_and}
use Rattle.plant.specs.declared.device.Fault.TheVariants.{Failed}
use Rattle.plant_file.specs.Standing.{Keeps}
use Rattle.plant_file.proofs.Commanded.{IsMade, fits_sent, steps_done, steps_failed, steps_unsent, fits_unsent, steps_from, all_from}
use Rattle.plant_file.proofs.sending.send.Goals as goal

pub returns-in_err-send-in-Ok-clause-trace : goal.returns-in_err-send-in-Ok-clause-trace
returns-in_err-send-in-Ok-clause-trace g c =
    let p = err_from_is_err_and c.from_residual.result c.from_residual.ensures.1 in
    let fault = c.in_err-send-in-Ok.field-0.0 in
    let before = g.F.Folder.told c.obey.new.folder in
    let stopped = g.F.Folder.is_stopped c.obey.new.folder in
    rw (p.1, p.2) (steps_from c.args.op.now (Err fault) stopped (g.F.Folder.is_stopped c.args.folder.now) before (g.F.Folder.told c.args.folder.now) (g.F.Folder.told c.send.new.self) c.in-Ok.ensures.told c.in-Ok.ensures.still
    (steps_failed c.args.op.now c.in-Ok.field-0.answer c.text.result.now stopped fault before (g.F.Folder.told c.send.new.self) (c.in-Ok.ensures.still ∙ c.requires.runs) c.in_err-send-in-Ok.ensures.told))

pub returns-in_err-send-in-Ok-clause-fits : goal.returns-in_err-send-in-Ok-clause-fits
returns-in_err-send-in-Ok-clause-fits g c =
    let old = g.F.Folder.told c.args.folder.now in
    let before = g.F.Folder.told c.obey.new.folder in
    let op = c.args.op.now in
    let answer = c.in-Ok.field-0.answer in
    let text = c.text.result.now in
    fits_sent op answer text (g.F.Folder.is_stopped c.obey.new.folder) (Err c.in_err-send-in-Ok.field-0.0) before (g.F.Folder.told c.send.new.self) (c.in-Ok.ensures.still ∙ c.requires.runs)
    (all_from (IsMade op answer text) before old c.in-Ok.ensures.told (λ h some. record { tables = c.in-Ok.field-0.tables; is = c.text.ensures.again; obeyed = c.in-Ok.ensures.obeyed c.in-Ok.field-0 refl h some }))
    c.in_err-send-in-Ok.ensures.told (all_from Keeps before old c.in-Ok.ensures.told c.requires.fits)

pub returns-in_ok-send-in-Ok-clause-trace : goal.returns-in_ok-send-in-Ok-clause-trace
returns-in_ok-send-in-Ok-clause-trace g c =
    let before = g.F.Folder.told c.obey.new.folder in
    let stopped = g.F.Folder.is_stopped c.obey.new.folder in
    let answer = c.in-Ok.field-0.answer in
    steps_from c.args.op.now (Ok answer) stopped (g.F.Folder.is_stopped c.args.folder.now) before (g.F.Folder.told c.args.folder.now) (g.F.Folder.told c.send.new.self) c.in-Ok.ensures.told c.in-Ok.ensures.still
    (steps_done c.args.op.now answer c.text.result.now stopped before (g.F.Folder.told c.send.new.self) (c.in-Ok.ensures.still ∙ c.requires.runs) c.in-Ok.ensures.fits c.in_ok-send-in-Ok.ensures.told)

pub returns-in_ok-send-in-Ok-clause-fits : goal.returns-in_ok-send-in-Ok-clause-fits
returns-in_ok-send-in-Ok-clause-fits g c =
    let old = g.F.Folder.told c.args.folder.now in
    let before = g.F.Folder.told c.obey.new.folder in
    let op = c.args.op.now in
    let answer = c.in-Ok.field-0.answer in
    let text = c.text.result.now in
    fits_sent op answer text (g.F.Folder.is_stopped c.obey.new.folder) (Ok tt) before (g.F.Folder.told c.send.new.self) (c.in-Ok.ensures.still ∙ c.requires.runs)
    (all_from (IsMade op answer text) before old c.in-Ok.ensures.told (λ h some. record { tables = c.in-Ok.field-0.tables; is = c.text.ensures.again; obeyed = c.in-Ok.ensures.obeyed c.in-Ok.field-0 refl h some }))
    c.in_ok-send-in-Ok.ensures.told (all_from Keeps before old c.in-Ok.ensures.told c.requires.fits)

pub returns-in-Err-clause-trace : goal.returns-in-Err-clause-trace
returns-in-Err-clause-trace g c =
    let before = g.F.Folder.told c.obey.new.folder in
    let stopped = g.F.Folder.is_stopped c.obey.new.folder in
    steps_from c.args.op.now (Err Failed) stopped (g.F.Folder.is_stopped c.args.folder.now) before (g.F.Folder.told c.args.folder.now) (g.F.Folder.told c.unsent.new.self) c.in-Err.ensures.told c.in-Err.ensures.still
    (steps_unsent c.args.op.now stopped before (g.F.Folder.told c.unsent.new.self) (c.in-Err.ensures.still ∙ c.requires.runs) c.unsent.ensures.told)

pub returns-in-Err-clause-fits : goal.returns-in-Err-clause-fits
returns-in-Err-clause-fits g c =
    let before = g.F.Folder.told c.obey.new.folder in
    fits_unsent c.args.op.now before (g.F.Folder.told c.unsent.new.self) c.unsent.ensures.told (all_from Keeps before (g.F.Folder.told c.args.folder.now) c.in-Err.ensures.told c.requires.fits)
