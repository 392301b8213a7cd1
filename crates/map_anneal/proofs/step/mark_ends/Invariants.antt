use Rattle.std.proofs.Common.{◌≡◌, ◌≢◌, ◌<◌, ℕ, true, false, get_or}
use Rattle.lab_model.specs.Rules.{place_at}
use Rattle.map_state.specs.Nodes.{no_end}
use Rattle.map_anneal.proofs.step.mark_ends.Given as goal

abbrev pub invariant-loop-end : goal.invariant-loop-end
invariant-loop-end l = record {
  kept : (n : ℕ) → get_or l.marks.items n true ≡ false → get_or l.initial.marks.items n true ≡ false;
  aside : (n : ℕ) → get_or l.marks.items n true ≡ false → (e : ℕ) → e < l.end-index → get_or l.still (get_or l.ends e no_end).segment false ≡ false
      → (place_at l.last (get_or l.ends e no_end).node).0.0 ≢ n;
}
