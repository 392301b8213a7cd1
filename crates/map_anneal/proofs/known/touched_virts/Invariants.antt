use Rattle.std.proofs.Common.{◌≡◌, ℕ, true, false, length, get_or}
use Rattle.map_anneal.specs.Untouched.{IsUntouched}
use Rattle.map_anneal.proofs.known.touched_virts.Given as goal

abbrev pub invariant-loop-virt : goal.invariant-loop-virt
invariant-loop-virt l = record {
  count : length l.virts.items ≡ length l.wiring.nodes;
  done : (v : ℕ) → get_or l.virts.items v true ≡ false → IsUntouched l.wiring l.last l.next l.nodes v;
}
