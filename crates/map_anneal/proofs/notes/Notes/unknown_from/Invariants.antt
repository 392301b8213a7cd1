use Rattle.std.proofs.Common.{◌≡◌, ◌<◌, ◌≤◌, ◌-◌, ℕ, true, false, length, get_or}
use Rattle.map_anneal.proofs.notes.Notes.unknown_from.Given as goal

abbrev pub invariant-loop-start : goal.invariant-loop-start
invariant-loop-start l = record {
  from : l.from ≤ l.start;
  within : l.start ≤ length l.self;
  known : (k : ℕ) → l.from ≤ k → k < l.start → get_or l.self k false ≡ true;
}

abbrev pub decreases-loop-start : goal.decreases-loop-start
decreases-loop-start l = length l.self - l.start
