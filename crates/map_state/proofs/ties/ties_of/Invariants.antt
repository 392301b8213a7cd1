use Rattle.std.proofs.Common.{◌≡◌, List, length, true, All}
use Rattle.lab_model.specs.Shapes.{Place}
use Rattle.lab_model.specs.Feasible.{AllPass}
use Rattle.node_maps.specs.Moved.{has_class_type}
use Rattle.map_state.specs.Ties.{IsTie, have_one_type}
use Rattle.map_state.proofs.ties.ties_of.Given as goal

abbrev pub invariant-loop-virt : goal.invariant-loop-virt
invariant-loop-virt l = record {
  each : All (IsTie l.wiring) l.ties.items;
  all : (places : List Place) → length places ≡ length l.wiring.nodes → All (λ t. have_one_type places t ≡ true) l.ties.items → AllPass l.virt (has_class_type l.wiring places);
}
