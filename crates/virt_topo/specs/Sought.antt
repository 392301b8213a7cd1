-- Where an end was sought among ends, before others that follow.
use Rattle.std.specs.Prelude.{◌≡◌, ◌<◌, ◌+◌, ◌++◌, ℕ, List, length}
use Rattle.virt_topo.specs.declared.ends.Sought.{Sought}
use Rattle.virt_topo.specs.declared.ends.Sought.TheVariants.{At, Later}
use Rattle.virt_topo.specs.Ends.{end_number}

-- the end v:k stands at its place, or so many ends of v are still to be passed after these
abbrev pub IsSought : List ℕ → List ℕ → ℕ → ℕ → Sought → Type 0
IsSought nodes rest v k (At n) = (end_number (nodes ++ rest) v k ≡ n) × (n < length nodes)
IsSought nodes rest v k (Later left) = end_number (nodes ++ rest) v k ≡ length nodes + end_number rest v left
