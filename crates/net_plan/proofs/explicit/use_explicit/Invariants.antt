use Rattle.std.proofs.Common.{◌≡◌, take, drop}
use Rattle.net_plan.specs.Addresses.{addresses_of, uses, all_taken, repeats}
use Rattle.net_plan.proofs.explicit.use_explicit.Given as goal

abbrev pub invariant-loop-end : goal.invariant-loop-end
invariant-loop-end l = record {
  used : uses l.used ≡ all_taken (uses l.initial.used) (addresses_of (take l.end-index l.ends));
  free : repeats (uses l.initial.used) (addresses_of l.ends) ≡ repeats (uses l.used) (addresses_of (drop l.end-index l.ends));
}
