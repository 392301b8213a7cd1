use Rattle.std.proofs.Common.{◌≡◌, min}
use Rattle.lab_view.specs.Flags.{firsts_before}
use Rattle.lab_view.proofs.flags.are_few.Given as goal

abbrev pub invariant-loop-machine : goal.invariant-loop-machine
invariant-loop-machine l = l.count ≡ min (firsts_before l.view l.machine) 9
