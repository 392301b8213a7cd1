-- The walk of a start and a seed.
use Rattle.std.specs.Prelude.{ℕ, zero, suc, ◌+◌, ◌*◌, ◌/◌, ◌%◌, List, [], ◌∷◌, ◌++◌, length, nat_le, nat_eq, Option, Some, None, option_and_then, if◌then◌else◌, slice_index_or}
use Rattle.rand_core.specs.Pcg32Seed.{pcg32_seed}
use Rattle.rand_pcg.specs.Lcg.{Lcg}
use Rattle.rand_pcg.specs.Pcg.{pcg32, pcg32_of_seed}
use Rattle.virt_topo.specs.declared.mapping.Mapping.{Mapping}
use Rattle.lab_model.specs.Rules.{no_place}
use Rattle.map_anneal.specs.Sought.{Sought, choices, candidates_at, moved, price}

-- the maps of a walk so far, the last of them, and the generator of the words to come
pub record Walker : Type 0 where
  pub maps : List Mapping
  pub last : Mapping
  pub words : Lcg

-- the generator of a seed
abbrev pub generator : ℕ → Lcg
generator seed = pcg32_of_seed (pcg32_seed 16 seed)

-- the map that the first two words name: virtual node `w1 mod n` at number `w2 mod c` of its c candidates
unfoldable pub named : Sought → Mapping → ℕ → ℕ → Option Mapping
named s last w1 w2 =
    let v = w1 % length (choices s) in
    moved s last v (slice_index_or (candidates_at s v) (w2 % length (candidates_at s v)) no_place)

-- the map that is added, if any: it costs at most as much as the last one and what the heat and the third word give
abbrev pub accepted : Sought → ℕ → Mapping → ℕ → Option Mapping → Option Mapping
accepted s heat last w3 found =
    option_and_then (λ m. if nat_le (price s m) (price s last + (w3 % 1024) * heat / 1024) then Some m else None) found

abbrev pub after_change : Walker → Lcg → Option Mapping → Walker
after_change x words None = record { maps = x.maps; last = x.last; words = words }
after_change x words (Some m) = record { maps = x.maps ++ m ∷ []; last = m; words = words }

-- the words that a try draws, and the generator after it
pub record Drawn : Type 0 where
  pub first : ℕ
  pub second : ℕ
  pub third : ℕ
  pub after : Lcg

unfoldable pub drawn : Lcg → Drawn
drawn words =
    let first = pcg32 words in
    let second = pcg32 first.1 in
    let third = pcg32 second.1 in
    record { first = first.0; second = second.0; third = third.0; after = third.1 }

-- the map that a try adds, if any
abbrev pub found : Sought → ℕ → Mapping → Drawn → Option Mapping
found s heat last d = accepted s heat last d.third (named s last d.first d.second)

abbrev pub one_try : Sought → ℕ → Walker → Walker
one_try s heat x = after_change x (drawn x.words).after (found s heat x.last (drawn x.words))

-- so many tries at this heat
unfoldable pub tries : Sought → ℕ → ℕ → Walker → Walker
tries s heat zero x = x
tries s heat (suc k) x = one_try s heat (tries s heat k x)

abbrev pub round : Sought → ℕ → Walker → Walker
round s heat x = tries s heat (8 * length (choices s)) x

-- the rounds from a heat on, while it is above 0; fuel bounds their number
unfoldable pub cooled : Sought → ℕ → ℕ → Walker → Walker
cooled s zero heat x = x
cooled s (suc fuel) heat x = if nat_eq heat 0 then x else cooled s fuel (heat * 9 / 10) (round s heat x)

abbrev pub started : Mapping → ℕ → Walker
started start seed = record { maps = start ∷ []; last = start; words = generator seed }

-- the walk of a start and a seed. The heat is lower after each round, so the start's cost is fuel enough
unfoldable pub walk : Sought → Mapping → ℕ → List Mapping
walk s start seed = (cooled s (price s start) (price s start) (started start seed)).maps
