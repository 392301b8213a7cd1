use Rattle.std.proofs.Common.{◌≡◌, ◌≤◌, ◌+◌, ℕ, cond, Some, length, take}
use Rattle.std.specs.Prelude.{nat_eq}
use Rattle.indexmap.specs.IndexMap.{get, spare}
use Rattle.ns_build.specs.Networks.{has_end}
use Rattle.ns_build.specs.Places.{noted}
use Rattle.ns_build.proofs.links.note_ends.Given as goal

abbrev pub invariant-loop-end : goal.invariant-loop-end
invariant-loop-end l = record {
  places : (v : ℕ) → get nat_eq l.places v ≡ cond (has_end v (take l.end-index l.ends)) (Some (noted l.index (get nat_eq l.initial.places v))) (get nat_eq l.initial.places v);
  room : length l.ends ≤ spare l.places + l.end-index;
}
