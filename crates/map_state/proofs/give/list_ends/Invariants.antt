use Rattle.std.proofs.Common.{◌≡◌, ℕ}
use Rattle.map_state.specs.Nodes.{numbers_of}
use Rattle.map_state.proofs.ListedLaws.{times, is_before}
use Rattle.map_state.proofs.give.list_ends.Given as goal

abbrev pub invariant-loop-virt : goal.invariant-loop-virt
invariant-loop-virt l = record {
  listed : (k : ℕ) → times k l.listed.items ≡ times k (numbers_of 0 (is_before l.hosts l.node.0 l.virt) l.search.mapper.ends.now);
}
