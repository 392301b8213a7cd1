use Rattle.std.proofs.Common.{◌≡◌, ◌++◌, ◌==◌, drop}
use Rattle.map_state.specs.Nodes.{numbers_of}
use Rattle.map_state.proofs.table.own_ends.Given as goal

abbrev pub invariant-loop-end : goal.invariant-loop-end
invariant-loop-end l = record {
  number : l.number ≡ l.end-index;
  listed : l.own ++ numbers_of l.end-index (λ e. e.node == l.virt) (drop l.end-index l.ends) ≡ numbers_of 0 (λ e. e.node == l.virt) l.ends;
}
