-- Trunks: what they join, and the sides of one.
use Rattle.std.specs.Prelude.{◌≡◌, ◌⊎◌, ◌<◌, ℕ, Bool, ◌&&◌, ◌||◌, ◌==◌, List, [], ◌∷◌, length, false, slice_index_or, remove}
use Rattle.lab_base.specs.Lists.{Has}
use Rattle.phys_lab.specs.declared.parts.Trunk.{Trunk}

-- the trunk goes from switch a to switch b, in one direction or the other
abbrev pub Spans : Trunk → ℕ → ℕ → Type 0
Spans t a b = ((t.first.0.0 ≡ a) × (t.second.0.0 ≡ b)) ⊎ ((t.second.0.0 ≡ a) × (t.first.0.0 ≡ b))

-- this list of trunks leads from switch a to switch b
abbrev pub Leads : List Trunk → ℕ → ℕ → Type 0
Leads [] a b = a ≡ b
Leads (t ∷ path) a b = (mid : ℕ) × Spans t a mid × Leads path mid b

-- a list of these trunks leads from a to b
pub record AreJoined (trunks : List Trunk) (a b : ℕ) : Type 0 where
  pub path : List Trunk
  pub of_these : (t : Trunk) → Has path t → Has trunks t
  pub leads : Leads path a b

-- the same as a test: without the first trunk, or over it once
abbrev pub joined : List Trunk → ℕ → ℕ → Bool
joined [] a b = a == b
joined (t ∷ trunks) a b =
    joined trunks a b
    || (joined trunks a t.first.0.0 && joined trunks t.second.0.0 b)
    || (joined trunks a t.second.0.0 && joined trunks t.first.0.0 b)

abbrev pub no_trunk : Trunk
no_trunk = record { link = []; first = record { 0 = record { 0 = 0 }; 1 = 0 }; second = record { 0 = record { 0 = 0 }; 1 = 0 }; kbps = 0 }

abbrev pub trunk_at : List Trunk → ℕ → Trunk
trunk_at trunks n = slice_index_or trunks n no_trunk

-- the switch is on the first side of trunk n: a list of the other trunks leads to it from the trunk's first switch
abbrev pub on_first_side : List Trunk → ℕ → ℕ → Bool
on_first_side trunks n switch = joined (remove trunks n) (trunk_at trunks n).first.0.0 switch

-- for each trunk there is no list of other trunks that joins its two switches
abbrev pub IsForest : List Trunk → Type 0
IsForest trunks = (n : ℕ) → n < length trunks → on_first_side trunks n (trunk_at trunks n).second.0.0 ≡ false
