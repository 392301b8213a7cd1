use Rattle.std.proofs.Common.{◌≡◌, ◌+◌, ◌++◌, drop}
use Rattle.std.specs.Prelude.{option_map}
use Rattle.net_plan.specs.Addresses.{uses, addressed_from}
use Rattle.net_plan.proofs.addresses.addressed_from_first.Given as goal

abbrev pub invariant-loop-link : goal.invariant-loop-link
invariant-loop-link l = record {
  number : l.number ≡ l.link-index + 1;
  links : addressed_from (uses l.initial.used) 1 l.links ≡ option_map (λ rest. l.given ++ rest) (addressed_from (uses l.used) l.number (drop l.link-index l.links));
}
