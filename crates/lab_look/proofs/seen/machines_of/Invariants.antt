use Rattle.std.proofs.Common.{◌≡◌, map, take}
use Rattle.lab_look.specs.Seen.{machine_of}
use Rattle.lab_look.proofs.seen.machines_of.Given as goal

abbrev pub invariant-loop-n : goal.invariant-loop-n
invariant-loop-n l = l.machines ≡ map (machine_of l.lab l.state.state.experiments) (take l.n l.lab.nodes)
