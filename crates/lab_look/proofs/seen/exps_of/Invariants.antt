use Rattle.std.proofs.Common.{◌≡◌, map, take}
use Rattle.lab_look.specs.Seen.{exp_of}
use Rattle.lab_look.proofs.seen.exps_of.Given as goal

abbrev pub invariant-loop-number : goal.invariant-loop-number
invariant-loop-number l = l.exps ≡ map (exp_of l.lab) (take l.number l.state.state.experiments)
