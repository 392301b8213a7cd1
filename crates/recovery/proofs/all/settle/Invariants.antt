use Rattle.std.proofs.Common.{◌≡◌, ◌⊎◌, [], false, length, take}
use Rattle.journal_disk.specs.Standing.{limit_of}
use Rattle.lab_state.specs.Texts.{the_texts}
use Rattle.swap_txn.specs.Steps.{live_of}
use Rattle.recovery.specs.Due.{swaps_of}
use Rattle.recovery.specs.Settle.{SettledTo}
use Rattle.recovery.proofs.all.settle.Given as goal

abbrev pub invariant-loop-n : goal.invariant-loop-n
invariant-loop-n g l = record {
  so_far : SettledTo the_texts l.fn.state.state l.busy (g.P.Plant.seen l.fn.plant) (g.P.Plant.seen l.plant) l.fn.journal l.journal l.n l.state.state l.settled;
  count_is : l.count ≡ length l.fn.state.state.experiments;
  runs : (g.P.Plant.seen l.fn.plant).stopped ≡ false → (g.P.Plant.seen l.plant).stopped ≡ false;
  ran : (swaps_of l.busy (take l.n l.fn.state.state.experiments) ≡ []) ⊎ ((g.P.Plant.seen l.plant).stopped ≡ false);
  idle : swaps_of l.busy (take l.n l.fn.state.state.experiments) ≡ [] → (l.settled ≡ record { done = 0; stuck = 0 }) × (l.journal ≡ l.fn.journal) × (l.plant ≡ l.fn.plant);
  same_limit : limit_of l.journal ≡ limit_of l.fn.journal;
  same_live : live_of l.journal ≡ live_of l.fn.journal;
}
