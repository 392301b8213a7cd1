use Rattle.std.proofs.Common.{◌≡◌, drop}
use Rattle.lab_look.specs.Beside.{is_beginning}
use Rattle.lab_look.proofs.beside.is_beginning.Given as goal

abbrev pub invariant-loop-n : goal.invariant-loop-n
invariant-loop-n l = is_beginning l.bytes l.text ≡ is_beginning (drop l.n l.bytes) (drop l.n l.text)
