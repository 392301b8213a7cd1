use Rattle.std.proofs.Common.{◌≡◌, ◌<◌, ◌+◌, length, All, None, IfSome}
use Rattle.trunk_sums.specs.Summed.{IsSummed}
use Rattle.trunk_sums.specs.Remade.{AreChanges}
use Rattle.map_state.specs.Reverted.{reverted}
use Rattle.map_state.proofs.remake.revert.Given as goal

abbrev pub invariant-loop-number : goal.invariant-loop-number
invariant-loop-number l = record {
  count : length l.back.items + l._number ≡ length l.initial.back.items;
  plugged : length l.plugs.items ≡ length l.initial.plugs.items;
  in_lab : All (λ i. i.0 < length l.lab.ifaces) l.plugs.items;
  summed : IfSome l.sums (IsSummed l.lab l.wiring l.plugs.items);
  rest : l.sums ≡ None → l.initial.sums ≡ None;
  back : reverted l.plugs.items l.back.items ≡ reverted l.initial.plugs.items l.initial.back.items;
  backward : AreChanges l.lab l.wiring l.back.items;
}
