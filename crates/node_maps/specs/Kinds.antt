-- Kinds of virtual nodes: those of one kind have the same candidates. Numbers of places.
use Rattle.std.specs.Prelude.{◌≡◌, ℕ, ◌<◌, List, [], length, map, All, slice_index_or}
use Rattle.virt_topo.specs.declared.wiring.VirtNode.{VirtNode}
use Rattle.virt_topo.specs.Wirings.{no_virt}
use Rattle.lab_model.specs.Shapes.{Place}
use Rattle.lab_model.specs.Rules.{no_place}

-- both ask for the same, desire the same, and are fixed at the same node, if at one
pub record AreOfOneKind (u v : VirtNode) : Type 0 where
  pub asks : u.asks ≡ v.asks
  pub desires : u.desires ≡ v.desires
  pub fixed : u.fixed ≡ v.fixed

-- by kind one virtual node of it, and by virtual node its kind, of the first n; no two kinds are one
pub record AreKinds (nodes : List VirtNode) (n : ℕ) (ones kinds : List ℕ) : Type 0 where
  pub first : All (λ v. v < length nodes) ones
  pub apart : (j k : ℕ) → j < k → k < length ones
      → AreOfOneKind (slice_index_or nodes (slice_index_or ones j 0) no_virt) (slice_index_or nodes (slice_index_or ones k 0) no_virt) → ⊥
  pub one_each : length kinds ≡ n
  pub within : (v : ℕ) → v < n → slice_index_or kinds v 0 < length ones
  pub same : (v : ℕ) → v < n
      → AreOfOneKind (slice_index_or nodes (slice_index_or ones (slice_index_or kinds v 0) 0) no_virt) (slice_index_or nodes v no_virt)

-- the list of each virtual node's kind
abbrev pub by_kind : {X : Type 0} → List (List X) → List ℕ → List (List X)
by_kind lists kinds = map (λ k. slice_index_or lists k []) kinds

-- the place of a number
abbrev pub place_of : List Place → ℕ → Place
place_of places k = slice_index_or places k no_place

-- the places of numbers
abbrev pub places_of : List Place → List ℕ → List Place
places_of places numbers = map (place_of places) numbers

-- the places of each list of numbers
abbrev pub listed : List Place → List (List ℕ) → List (List Place)
listed places lists = map (places_of places) lists

-- each number in the lists is that of one of these places
abbrev pub AreNumbers : List Place → List (List ℕ) → Type 0
AreNumbers places lists = All (All (λ k. k < length places)) lists
