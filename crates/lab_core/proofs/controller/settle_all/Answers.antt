use Rattle.std.proofs.Common.{[], subst}
use Rattle.lab_state.specs.Texts.{the_texts}
use Rattle.recovery.specs.Settle.{SettledSome}
use Rattle.lab_core.specs.Controller.{Control}
use Rattle.lab_core.proofs.controller.settle_all.Goals as goal

-- memory was wanting
pub returns-clause-after : goal.returns-clause-after
returns-clause-after g c =
    let journal = c.settle.new.journal in
    let lab = c.settle.new.state.state in
    let first : SettledSome the_texts c.controller.inside.lab.state [] (g.P.Plant.seen c.args.plant.now) (g.P.Plant.seen c.settle.new.plant) c.controller.inside.journal journal lab = rw c.in-Err-Memory.field-0-is at c.in-Err-Memory.ensures.after in
    (journal, lab, subst (λ (k : Control). SettledSome the_texts k.lab [] (g.P.Plant.seen c.args.plant.now) (g.P.Plant.seen c.settle.new.plant) k.journal journal lab) c.controller.view_is first)
