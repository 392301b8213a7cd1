use Rattle.std.proofs.Common.{ap, ◌∙◌}
use Rattle.virt_topo.specs.Wirings.{mapped}
use Rattle.lab_model.specs.Claims.{Old, New, claimed_in}
use Rattle.lab_state.proofs.packing.push_one.Goals as goal

pub push_stand-requires : goal.push_stand-requires
push_stand-requires c =
    let w = c.args.experiment.now.wiring in
    c.requires.fits New (mapped w c.in-In.mapping c.in-In.tags) (ap (λ p. claimed_in w p New) c.in-In.is)

pub push_moving-requires-clause-old : goal.push_moving-requires-clause-old
push_moving-requires-clause-old c = λ m is. c.requires.fits Old m (ap (λ p. claimed_in c.args.experiment.now.wiring p Old) c.in-Moving.is ∙ is)

pub push_moving-requires-clause-new : goal.push_moving-requires-clause-new
push_moving-requires-clause-new c = λ m is. c.requires.fits New m (ap (λ p. claimed_in c.args.experiment.now.wiring p New) c.in-Moving.is ∙ is)
