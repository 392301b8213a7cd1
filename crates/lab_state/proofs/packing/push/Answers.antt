use Rattle.lab_state.proofs.PackSteps.{packs_one}
use Rattle.lab_state.proofs.packing.push.Goals as goal

pub returns : goal.returns
returns c = packs_one c.add.result c.args.packed.now c.add.new.self c.in-Ok.encoded c.args.entry c.in-Ok.ensures.spelled c.add.ensures.ok
