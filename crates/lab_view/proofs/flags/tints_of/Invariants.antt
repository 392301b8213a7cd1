use Rattle.std.proofs.Common.{◌≡◌, min, map}
use Rattle.std.specs.List.{range_with_len}
use Rattle.lab_view.specs.Flags.{firsts_before, are_few, tint_in}
use Rattle.lab_view.proofs.flags.tints_of.Given as goal

abbrev pub invariant-loop-machine : goal.invariant-loop-machine
invariant-loop-machine l = record {
  few : l.few ≡ are_few l.view;
  count : l.count ≡ min (firsts_before l.view l.machine) 9;
  tints : l.tints ≡ map (tint_in l.view) (range_with_len 0 l.machine);
}
