use Rattle.std.proofs.Common.{◌≡◌, ◌≤◌, ◌+◌, false, cond}
use Rattle.map_anneal.specs.Sought.{price, LocallyBest}
use Rattle.map_anneal.specs.Searches.{sought_of, priced_by, IsTried}
use Rattle.map_anneal.specs.Noted.{IsKnown}
use Rattle.map_anneal.proofs.descent.descend_by.Given as goal

abbrev pub invariant-loop-better : goal.invariant-loop-better
invariant-loop-better g l = record {
  tried : IsTried l.search l.rule.number l.at;
  lowest : l.lowest ≡ priced_by l.at;
  known : IsKnown (sought_of l.search l.rule.number) l.at.state.mapping l.known;
  cheaper : l.at.cost ≤ price (sought_of l.search l.rule.number) l.start;
  best : l.better ≡ false → LocallyBest (sought_of l.search l.rule.number) l.at.state.mapping;
}

abbrev pub decreases-loop-better : goal.decreases-loop-better
decreases-loop-better g l = l.at.cost + cond l.better 1 0
