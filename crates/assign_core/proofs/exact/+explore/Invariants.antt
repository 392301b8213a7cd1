use Rattle.std.proofs.Common.{◌≡◌, ◌-◌, ◌+◌, ◌++◌, [], length, take, drop, get_or, List, None, IfSome}
use Rattle.virt_topo.specs.declared.mapping.Mapping.{Mapping}
use Rattle.map_state.specs.Chosen.{IsChosen}
use Rattle.map_anneal.specs.Sought.{choices}
use Rattle.map_anneal.specs.Searches.{sought_of, IsPriced}
use Rattle.assign_core.specs.Bests.{IsBest}
use Rattle.assign_core.specs.Prefixes.{IsPrefix}
use Rattle.assign_core.proofs.Choosing.{found, with_each}
use Rattle.assign_core.proofs.exact.+explore.Given as goal

abbrev pub decreases-explore : goal.decreases-explore
decreases-explore g l = length l.search.now.candidates.now - length l.prefix.now.places.items

abbrev pub invariant-loop-number : goal.invariant-loop-number
invariant-loop-number g l = record {
  prefix : IsPrefix l.search l.prefix;
  places : l.prefix.places.items ≡ l.initial.prefix.places.items;
  chosen : IsChosen l.search l.chosen;
  begun : take (length l.initial.prefix.places.items) l.chosen.state.mapping.places ≡ l.initial.prefix.places.items;
  rest : l.chosen.state.sums ≡ None → l.initial.chosen.state.sums ≡ None;
  priced : IfSome l.kept (λ p. IsPriced (sought_of l.search l.rule.number) p);
  best : (maps : List Mapping) → IsBest (sought_of l.search l.rule.number) maps l.initial.kept
      → IsBest (sought_of l.search l.rule.number)
      (maps ++ found (sought_of l.search l.rule.number) (with_each l.initial.prefix.places.items (take l.number (get_or (choices (sought_of l.search l.rule.number)) (length l.initial.prefix.places.items) []))) (drop (length l.initial.prefix.places.items + 1) (choices (sought_of l.search l.rule.number))))
      l.kept;
}
