use Rattle.std.proofs.Common.{◌≡◌, map, take}
use Rattle.lab_picture.proofs.machines.type_names.Given as goal

abbrev pub invariant-loop-kind : goal.invariant-loop-kind
invariant-loop-kind l = l.names ≡ map (λ t. t.0) (take l.kind-index l.machine.types)
