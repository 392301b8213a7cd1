use Rattle.std.proofs.Common.{◌<◌, ◌≤◌, ℕ, get_or}
use Rattle.map_state.proofs.spare.are_spare.Given as goal

abbrev pub invariant-loop-left : goal.invariant-loop-left
invariant-loop-left l = record {
  each : (t : ℕ) → t < l.left-index → l.half ≤ get_or l.free.left t 0;
}
