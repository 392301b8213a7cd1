use Rattle.std.proofs.Common.{◌≡◌, ◌≤◌, ◌<◌, ℕ, List, [], length, map, drop, get_or, All}
use Rattle.lab_model.specs.Rules.{Laid}
use Rattle.node_maps.specs.Indexed.{Marks}
use Rattle.node_maps.specs.NodeMaps.{laid_from}
use Rattle.map_state.specs.Nodes.{no_end}
use Rattle.map_state.proofs.give.serve_listed.Given as goal

abbrev pub invariant-loop-number : goal.invariant-loop-number
invariant-loop-number l = record {
  had : List Laid;
  marks : Marks l.search.mapper.lab.now l.given had;
  rest : laid_from l.search.mapper.lab.now l.places (map (λ k. get_or l.search.mapper.ends.now k no_end) (drop l.number-index l.listed)) had
      ≡ laid_from l.search.mapper.lab.now l.places (map (λ k. get_or l.search.mapper.ends.now k no_end) l.listed) [];
  rising : (k d : ℕ) → l.number-index ≤ k → k < length l.listed → All (λ (x : Laid). x.0.segment ≤ (get_or l.search.mapper.ends.now (get_or l.listed k d) no_end).segment) had;
}
