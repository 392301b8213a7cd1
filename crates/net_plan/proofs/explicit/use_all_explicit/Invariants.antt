use Rattle.std.proofs.Common.{◌≡◌, false, take, drop}
use Rattle.std.specs.Prelude.{nat_eq}
use Rattle.virt_topo.specs.Repeats.{stands_again}
use Rattle.net_plan.specs.Addresses.{addresses_of, ends_of, uses, all_taken, repeats}
use Rattle.net_plan.proofs.explicit.use_all_explicit.Given as goal

abbrev pub invariant-loop-link : goal.invariant-loop-link
invariant-loop-link l = record {
  used : uses l.used ≡ all_taken (λ a. false) (addresses_of (ends_of (take l.link-index l.links)));
  free : stands_again nat_eq (addresses_of (ends_of l.links)) ≡ repeats (uses l.used) (addresses_of (ends_of (drop l.link-index l.links)));
}
