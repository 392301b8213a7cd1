use Rattle.std.proofs.Common.{nat_le, get_or}
use Rattle.lab_model.specs.Feasible.{AllPass}
use Rattle.node_maps.proofs.mapper.has_room.Given as goal

abbrev pub invariant-loop-trunk : goal.invariant-loop-trunk
invariant-loop-trunk l = AllPass l.trunk (λ t. nat_le (get_or l.uses t 0) (get_or l.free.left t 0))
