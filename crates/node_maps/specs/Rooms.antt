-- Rooms of candidates.
use Rattle.std.specs.Prelude.{◌≡◌, ◌<◌, ◌≤◌, ◌+◌, ◌*◌, ◌^◌, ℕ, List, length, map}
use Rattle.phys_lab.specs.Labs.{Lab}
use Rattle.lab_model.specs.Shapes.{Place, node_at}
use Rattle.lab_model.specs.Rules.{number_of}
use Rattle.node_maps.specs.declared.rooms.Room.{Room}

-- the node of a place, and how many virtual nodes may have its type there
abbrev pub room_of : Lab → Place → Room
room_of lab p = record { node = p.0; most = number_of (node_at lab p.0).types p.1 }

abbrev pub no_room : Room
no_room = record { node = record { 0 = 0 }; most = 0 }

-- i is the least number of 2^64ths that is at least one n-th; 0 in the place of 2^64
pub record IsInverse (n i : ℕ) : Type 0 where
  pub one : n ≡ 1 → i ≡ 0
  pub least : 1 < n → 2 ^ 64 ≤ i * n
  pub near : 1 < n → i * n < 2 ^ 64 + n

-- by list its length, and how many lists are picked
pub record AreCounts {X : Type 0} (lists : List (List X)) (kinds counts : List ℕ) (all : ℕ) : Type 0 where
  pub each : counts ≡ map length lists
  pub picked : all ≡ length kinds
