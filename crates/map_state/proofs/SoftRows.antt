-- Virtual nodes of one kind have the same row.
use Rattle.std.proofs.Common.{◌≡◌, ◌<◌, ◌+◌, ◌∙◌, ℕ, List, [], length, get_or, arith}
use Rattle.phys_lab.specs.Labs.{Lab}
use Rattle.lab_model.specs.Shapes.{node_at}
use Rattle.virt_topo.specs.declared.wiring.Wiring.{Wiring}
use Rattle.cost_rule.specs.Cost.{missed}
use Rattle.node_maps.specs.Kinds.{AreKinds}
use Rattle.map_state.specs.declared.softs.Softs.{Softs}
use Rattle.map_state.specs.Softs.{AreSofts, IsSoftRow}

pub are_softs : (lab : Lab) (w : Wiring) (ones : List ℕ) (x : Softs) → AreKinds w.nodes (length w.nodes) ones x.kinds.items → length x.rows.items ≡ length ones
    → ((k : ℕ) → k < length ones → IsSoftRow lab w (get_or ones k 0) (get_or x.rows.items k [])) → AreSofts lab w x
are_softs lab w ones x are count each = record {
  one_each = are.one_each;
  within = λ v lt. (let less = are.within v lt in omega (arith, less, count));
  rows = λ v lt.
      let k = get_or x.kinds.items v 0 in
      let row = each k (are.within v lt) in
      record {
        one_each = row.one_each;
        each = λ n n_lt. row.each n n_lt ∙ (λ j. missed ((are.same v lt).desires j) (node_at lab (record { 0 = n })).features + missed (node_at lab (record { 0 = n })).features ((are.same v lt).desires j));
      };
}
