use Rattle.std.proofs.Common.{◌<◌, ℕ, get_or}
use Rattle.virt_topo.specs.Wirings.{no_virt}
use Rattle.node_maps.specs.Kinds.{AreOfOneKind}
use Rattle.node_maps.proofs.kinds.kind_of.Given as goal

abbrev pub invariant-loop-kind : goal.invariant-loop-kind
invariant-loop-kind l = (k : ℕ) → k < l.kind → AreOfOneKind (get_or l.nodes (get_or l.ones k 0) no_virt) (get_or l.nodes l.virt no_virt) → ⊥
