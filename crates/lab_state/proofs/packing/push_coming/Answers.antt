use Rattle.lab_state.proofs.packing.push_coming.Goals as goal

pub push_entering-requires : goal.push_entering-requires
push_entering-requires c = c.requires.new c.in-Some.new c.in-Some.is
