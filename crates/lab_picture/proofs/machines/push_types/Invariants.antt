use Rattle.std.proofs.Common.{◌≡◌, ◌++◌, take}
use Rattle.std.specs.List.{flat_map}
use Rattle.lab_picture.specs.Machines.{type_words}
use Rattle.lab_picture.proofs.machines.push_types.Given as goal

abbrev pub invariant-loop-kind : goal.invariant-loop-kind
invariant-loop-kind l = l.text ≡ l.initial.text ++ flat_map type_words (take l.kind-index l.types)
