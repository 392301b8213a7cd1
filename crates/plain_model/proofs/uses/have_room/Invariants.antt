use Rattle.lab_model.specs.Feasible.{AllPass}
use Rattle.plain_model.specs.Holds.{has_room}
use Rattle.plain_model.proofs.uses.have_room.Given as goal

abbrev pub invariant-loop-trunk : goal.invariant-loop-trunk
invariant-loop-trunk l = AllPass l.trunk (has_room l.lab l.experiments)
