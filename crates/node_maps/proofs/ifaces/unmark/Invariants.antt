use Rattle.std.proofs.Common.{◌≡◌, ℕ, length, take, get_or, true, ◌==◌}
use Rattle.std.specs.List.{list_any}
use Rattle.node_maps.proofs.ifaces.unmark.Given as goal

abbrev pub invariant-loop-plug : goal.invariant-loop-plug
invariant-loop-plug l = record {
  one_each : length l.used.items ≡ length l.initial.used.items;
  free : (i : ℕ) → list_any (λ p. p.0 == i) (take l.plug-index l.plugs) ≡ true → get_or l.used.items i 0 ≡ 0;
  others : (i : ℕ) → get_or l.initial.used.items i 0 ≡ 0 → get_or l.used.items i 0 ≡ 0;
}
