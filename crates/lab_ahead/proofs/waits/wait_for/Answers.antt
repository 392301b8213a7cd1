use Rattle.std.proofs.Common.{ap, arith, ◌∙◌}
use Rattle.lab_ahead.specs.Givings.{have_of, need_of}
use Rattle.lab_ahead.proofs.waits.wait_for.Goals as goal

pub overflow_cast-have : goal.overflow_cast-have
overflow_cast-have c =
    let need = c.need_of-need.ensures ∙ ap (need_of c.args.needs.now) c.as_slice.ensures in
    let have = c.have_of-count.ensures ∙ ap (have_of c.args.lab.now c.args.nodes.now) c.as_slice-2.ensures in
    omega (arith, need, have, c.requires.short.short)
