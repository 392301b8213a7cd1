use Rattle.std.proofs.Common.{◌≡◌, ◌<◌, length, take, All, None, IfSome}
use Rattle.trunk_sums.specs.Summed.{IsSummed}
use Rattle.trunk_sums.specs.Remade.{remade}
use Rattle.map_state.proofs.remake.adopt.Given as goal

abbrev pub invariant-loop-change : goal.invariant-loop-change
invariant-loop-change l = record {
  plugs : l.plugs.items ≡ remade l.initial.plugs.items (take l.change-index l.changes);
  plugged : length l.plugs.items ≡ length l.initial.plugs.items;
  in_lab : All (λ i. i.0 < length l.lab.ifaces) l.plugs.items;
  summed : IfSome l.sums (IsSummed l.lab l.wiring l.plugs.items);
  rest : l.sums ≡ None → l.initial.sums ≡ None;
}
