use Rattle.std.proofs.Common.{◌≡◌, map}
use Rattle.std.specs.List.{range_with_len}
use Rattle.lab_look.specs.Seen.{owner_at}
use Rattle.lab_look.proofs.seen.owners_of.Given as goal

abbrev pub invariant-loop-number : goal.invariant-loop-number
invariant-loop-number l = l.owners ≡ map (owner_at l.lab l.state.state.experiments) (range_with_len 0 l.number)
