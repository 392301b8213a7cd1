use Rattle.std.proofs.Common.{◌≡◌, ◌++◌, drop}
use Rattle.std.specs.Prelude.{option_map}
use Rattle.net_plan.specs.Addresses.{addresses_of, uses, all_taken, addressed_ends}
use Rattle.net_plan.proofs.addresses.addressed_ends.Given as goal

abbrev pub invariant-loop-end : goal.invariant-loop-end
invariant-loop-end l = record {
  used : uses l.used ≡ all_taken (uses l.initial.used) (addresses_of l.given);
  ends : addressed_ends (uses l.initial.used) l.subnet l.ends ≡ option_map (λ rest. l.given ++ rest) (addressed_ends (uses l.used) l.subnet (drop l.end-index l.ends));
}
