use Rattle.std.proofs.Common.{◌≡◌, ◌<◌, ◌-◌, ℕ, length, get_or}
use Rattle.lab_model.specs.Rules.{no_place}
use Rattle.map_anneal.specs.Sought.{IsNoCheaper, candidates_at, moved}
use Rattle.map_anneal.specs.Searches.{sought_of, IsTried}
use Rattle.map_anneal.specs.RuledOut.{IsRow}
use Rattle.map_anneal.proofs.descent.cheaper_move_of.Given as goal

abbrev pub invariant-loop-number : goal.invariant-loop-number
invariant-loop-number g l = record {
  tried : IsTried l.search l.rule.number l.at;
  same : l.at.state.mapping ≡ l.initial.at.state.mapping;
  cost : l.at.cost ≡ l.initial.at.cost;
  row : IsRow (sought_of l.search l.rule.number) l.initial.at.state.mapping l.node l.row;
  none : (k : ℕ) → k < l.number
      → IsNoCheaper (sought_of l.search l.rule.number) l.initial.at.state.mapping (moved (sought_of l.search l.rule.number) l.initial.at.state.mapping l.node (get_or (candidates_at (sought_of l.search l.rule.number) l.node) k no_place));
}

abbrev pub decreases-loop-number : goal.decreases-loop-number
decreases-loop-number g l = length (candidates_at (sought_of l.search l.rule.number) l.node) - l.number
