use Rattle.lab_model.proofs.WiringLaws.{sound_pipes}
use Rattle.swap_plan.proofs.nodes.wanted_pipe.Goals as goal

pub plug_name-requires-clause-end : goal.plug_name-requires-clause-end
plug_name-requires-clause-end c = (sound_pipes c.args.wiring.now c.requires.sound c.args.pipe.now c.requires.pipe).from_end

pub plug_name-requires-2-clause-end : goal.plug_name-requires-2-clause-end
plug_name-requires-2-clause-end c = (sound_pipes c.args.wiring.now c.requires.sound c.args.pipe.now c.requires.pipe).to_end
