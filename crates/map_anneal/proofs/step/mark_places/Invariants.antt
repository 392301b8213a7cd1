use Rattle.std.proofs.Common.{◌≡◌, ◌≢◌, ◌⊎◌, ◌<◌, ℕ, true, false, get_or}
use Rattle.lab_model.specs.Rules.{place_at}
use Rattle.map_anneal.proofs.step.mark_places.Given as goal

abbrev pub invariant-loop-virt : goal.invariant-loop-virt
invariant-loop-virt l = record {
  kept : (n : ℕ) → get_or l.marks.items n true ≡ false → get_or l.initial.marks.items n true ≡ false;
  aside : (n : ℕ) → get_or l.marks.items n true ≡ false → (u : ℕ) → u < l.virt → (place_at l.last u ≡ place_at l.next u) ⊎ ((place_at l.last u).0.0 ≢ n) × ((place_at l.next u).0.0 ≢ n);
}
