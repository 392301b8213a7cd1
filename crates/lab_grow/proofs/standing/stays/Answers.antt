use Rattle.std.proofs.Common.{◌∙◌}
use Rattle.lab_state.specs.Texts.{the_texts}
use Rattle.lab_grow.proofs.Among.{stays_by}
use Rattle.lab_grow.proofs.standing.stays.Goals as goal

pub returns : goal.returns
returns c =
    let e = c.args.own.now in
    let f = c.args.other.now in
    stays_by the_texts c.args.old.now c.args.new.now e.wiring f.wiring e.phase f.phase c.deref.result.now c.deref-2.result.now c.are_same.result
    (c.deref.ensures.value ∙ c.in_ok-rows.ensures) (c.deref-2.ensures.value ∙ c.in_ok-others.ensures) c.requires.same.phase c.are_same.ensures
