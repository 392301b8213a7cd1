use Rattle.std.proofs.Common.{◌≡◌, map}
use Rattle.std.specs.List.{range_with_len}
use Rattle.lab_look.specs.Seen.{trunk_of}
use Rattle.lab_look.proofs.trunks.trunks_of.Given as goal

abbrev pub invariant-loop-number : goal.invariant-loop-number
invariant-loop-number l = l.trunks ≡ map (trunk_of l.lab l.state.state.experiments) (range_with_len 0 l.number)
