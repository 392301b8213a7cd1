use Rattle.std.proofs.Common.{◌≤◌, ◌<◌, ℕ, get_or, Option}
use Rattle.lab_picture.specs.declared.geometry.Echo.{Echo}
use Rattle.lab_layout.specs.Laid.{IsEchoIn}
use Rattle.lab_layout.proofs.within.Reach.over_echoes.Given as goal

abbrev pub invariant-loop-echo : goal.invariant-loop-echo
invariant-loop-echo l = record {
  wide : l.initial.reach.wide ≤ l.reach.wide;
  high : l.initial.reach.high ≤ l.reach.high;
  inside : (k : ℕ) (d : Option Echo) → k < l.echo-index → IsEchoIn l.reach.wide l.reach.high (get_or l.echoes k d);
}
