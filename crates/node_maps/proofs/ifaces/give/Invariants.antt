use Rattle.std.proofs.Common.{◌≡◌, ◌≤◌, ◌<◌, ℕ, List, [], length, drop, get_or, All}
use Rattle.lab_model.specs.Rules.{Laid}
use Rattle.node_maps.specs.declared.ends.End.{End}
use Rattle.node_maps.specs.Indexed.{Marks}
use Rattle.node_maps.specs.NodeMaps.{laid_from}
use Rattle.node_maps.proofs.ifaces.give.Given as goal

abbrev pub invariant-loop-end : goal.invariant-loop-end
invariant-loop-end l = record {
  had : List Laid;
  marks : Marks l.lab l.given had;
  rest : laid_from l.lab l.places (drop l.end-index l.ends) had ≡ laid_from l.lab l.places l.ends [];
  rising : (k : ℕ) (d : End) → l.end-index ≤ k → k < length l.ends → All (λ (x : Laid). x.0.segment ≤ (get_or l.ends k d).segment) had;
}
