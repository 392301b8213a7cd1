use Rattle.std.proofs.Common.{◌≡◌, ◌<◌, ℕ, length, take, get_or}
use Rattle.map_state.specs.Hosted.{hosted_at}
use Rattle.map_state.proofs.hosting.count_hosted.Given as goal

abbrev pub invariant-loop-place : goal.invariant-loop-place
invariant-loop-place l = record {
  one_each : length l.hosted.items ≡ length l.lab.nodes;
  hosted : (n : ℕ) → n < length l.lab.nodes → get_or l.hosted.items n 0 ≡ hosted_at (take l.place-index l.mapping.places) n;
}
