use Rattle.std.proofs.Common.{◌≤◌, ◌<◌, ℕ, get_or}
use Rattle.lab_picture.specs.declared.geometry.Bounds.{Bounds}
use Rattle.lab_layout.specs.Laid.{IsIn}
use Rattle.lab_layout.proofs.within.Reach.over_all.Given as goal

abbrev pub invariant-loop-place : goal.invariant-loop-place
invariant-loop-place l = record {
  wide : l.initial.reach.wide ≤ l.reach.wide;
  high : l.initial.reach.high ≤ l.reach.high;
  inside : (k : ℕ) (d : Bounds) → k < l.place-index → IsIn l.reach.wide l.reach.high (get_or l.places k d);
}
