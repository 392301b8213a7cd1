use Rattle.std.proofs.Common.{◌≡◌, take}
use Rattle.lab_audit.specs.Wants.{all_wanted}
use Rattle.lab_audit.proofs.gather.wanted_of.Given as goal

abbrev pub invariant-loop-number : goal.invariant-loop-number
invariant-loop-number l = l.wanted.items ≡ all_wanted l.lab (take l.number l.state.state.experiments)
