use Rattle.std.proofs.Common.{◌≡◌, ◌==◌, map, take}
use Rattle.trunk_sums.specs.Remade.{remade}
use Rattle.trunk_sums.specs.Totals.{used_of_all}
use Rattle.map_state.specs.Nodes.{changes_of, numbers_of}
use Rattle.map_state.proofs.predicted.uses_in_order.Given as goal

abbrev pub invariant-loop-number : goal.invariant-loop-number
invariant-loop-number l = record {
  uses : l.uses ≡ used_of_all l.search.mapper.lab.now l.search.mapper.wiring.now (remade l.plugs
      (take l.number (changes_of l.search.table.now.rows.items (numbers_of 0 (λ e. e.node == l.virt) l.search.mapper.ends.now) (map (λ x. x.id) l.ifaces))));
}
