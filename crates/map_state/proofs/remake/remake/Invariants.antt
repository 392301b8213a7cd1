use Rattle.std.proofs.Common.{◌≡◌, ◌<◌, length, take, All, None, IfSome}
use Rattle.trunk_sums.specs.Summed.{IsSummed}
use Rattle.trunk_sums.specs.Remade.{remade, AreChanges}
use Rattle.map_state.specs.Reverted.{reverted}
use Rattle.map_state.proofs.remake.remake.Given as goal

abbrev pub invariant-loop-change : goal.invariant-loop-change
invariant-loop-change l = record {
  plugs : l.plugs.items ≡ remade l.initial.plugs.items (take l.change-index l.changes);
  plugged : length l.plugs.items ≡ length l.initial.plugs.items;
  in_lab : All (λ i. i.0 < length l.lab.ifaces) l.plugs.items;
  summed : IfSome l.sums (IsSummed l.lab l.wiring l.plugs.items);
  rest : l.sums ≡ None → l.initial.sums ≡ None;
  back : reverted l.plugs.items l.back.items ≡ l.initial.plugs.items;
  backward : AreChanges l.lab l.wiring l.back.items;
}
