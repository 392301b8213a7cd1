use Rattle.std.proofs.Common.{◌≤◌, ◌<◌, ℕ, get_or}
use Rattle.lab_picture.specs.declared.geometry.Point.{Point}
use Rattle.lab_layout.specs.Laid.{IsPointIn}
use Rattle.lab_layout.proofs.within.Reach.over_points.Given as goal

abbrev pub invariant-loop-point : goal.invariant-loop-point
invariant-loop-point l = record {
  wide : l.initial.reach.wide ≤ l.reach.wide;
  high : l.initial.reach.high ≤ l.reach.high;
  inside : (k : ℕ) (d : Point) → k < l.point-index → IsPointIn l.reach.wide l.reach.high (get_or l.points k d);
}
