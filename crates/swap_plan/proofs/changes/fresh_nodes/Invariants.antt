use Rattle.std.proofs.Common.{◌≡◌, map, take}
use Rattle.lab_model.specs.Courses.{node_names}
use Rattle.swap_plan.specs.Plans.{fresh_os, wiped_os}
use Rattle.swap_plan.proofs.changes.fresh_nodes.Given as goal

abbrev pub invariant-loop-node : goal.invariant-loop-node
invariant-loop-node l = record {
  leaving : l.fresh.leaving.items ≡ map (fresh_os l.change.lab.now l.change.old.now l.change.new.now l.change.old.now) (take l.node (node_names l.change.lab.now));
  coming : l.fresh.coming.items ≡ map (fresh_os l.change.lab.now l.change.old.now l.change.new.now l.change.new.now) (take l.node (node_names l.change.lab.now));
  wiped : l.fresh.wiped.items ≡ map (wiped_os l.change.lab.now l.change.old.now l.change.new.now) (take l.node (node_names l.change.lab.now));
}
