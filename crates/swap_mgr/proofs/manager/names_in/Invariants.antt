use Rattle.swap_mgr.proofs.Slots.{NamedBelow}
use Rattle.swap_mgr.proofs.manager.names_in.Given as goal

abbrev pub invariant-loop-key : goal.invariant-loop-key
invariant-loop-key l = NamedBelow l.swaps l.key l.names.items
