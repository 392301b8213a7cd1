use Rattle.std.proofs.Common.{subst, Ok, Err}
use Rattle.lab_core.specs.Compaction.{AfterMove}
use Rattle.lab_core.specs.Controller.{Control, control}
use Rattle.lab_core.proofs.Compacting.{done_as, fault_as}
use Rattle.lab_core.proofs.compaction.compact.Goals as goal

pub returns-in-Ok-clause-after : goal.returns-in-Ok-clause-after
returns-in-Ok-clause-after g c =
    let i = c.controller.inside in
    let told = (g.P.Plant.seen c.args.plant.now).told in
    let now = (g.P.Plant.seen c.move_journal.new.plant).told in
    let left = control i.lab.state c.move_journal.new.journal i.swaps in
    subst (λ (k : Control). AfterMove {X = Control} k.lab k.journal told now (Ok left)) c.controller.view_is (done_as i.lab.state i.journal told now c.in-Ok.field-0 left c.in-Ok.ensures.after)

pub returns-in-Err-clause-after : goal.returns-in-Err-clause-after
returns-in-Err-clause-after g c =
    let i = c.controller.inside in
    let told = (g.P.Plant.seen c.args.plant.now).told in
    let now = (g.P.Plant.seen c.move_journal.new.plant).told in
    subst (λ (k : Control). AfterMove {X = Control} k.lab k.journal told now (Err c.in-Err.fault)) c.controller.view_is (fault_as i.lab.state i.journal told now c.in-Err.fault c.in-Err.ensures.after)
