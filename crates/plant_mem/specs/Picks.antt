-- The bytes that a stop leaves, by its pick.
use Rattle.std.specs.Prelude.{ℕ, ◌+◌, ◌-◌, ◌/◌, min, max, List, [], ◌∷◌, ◌++◌, length, take, drop, replicate}
use Rattle.plant.specs.Disks.{Disk}
use Rattle.plant.specs.declared.drill.Pick.{Pick}
use Rattle.plant.specs.declared.drill.Pick.TheVariants.{Nothing, All, Torn}

-- the bytes from one place to another, as far as there are, are a5
abbrev pub garbled : List ℕ → ℕ → ℕ → List ℕ
garbled bytes from end = take from bytes ++ replicate (min end (length bytes) - from) 165 ++ drop (max from end) bytes

-- of each written range of n bytes the last n - n/2 are a5; the newest range stands first
abbrev pub torn : List (ℕ × ℕ) → List ℕ → List ℕ
torn [] bytes = bytes
torn (r ∷ ranges) bytes = garbled (torn ranges bytes) (r.0 + (r.1 - r.0) / 2) r.1

-- what is left of a side
abbrev pub left_by : Pick → Disk → List ℕ
left_by Nothing d = d.durable
left_by All d = d.reads
left_by Torn d = torn d.written d.reads
