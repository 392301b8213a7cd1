use Rattle.std.proofs.Common.{take}
use Rattle.std.specs.List.{flat_map}
use Rattle.lab_state.specs.Packing.{packed_one, PacksMore}
use Rattle.lab_state.specs.Texts.{the_texts}
use Rattle.lab_state.proofs.packing.push_all.Given as goal

abbrev pub invariant-loop-n : goal.invariant-loop-n
invariant-loop-n l = PacksMore l.fn.packed l.packed (flat_map (packed_one the_texts l.lab) (take l.n l.experiments.list))
