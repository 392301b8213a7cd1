-- The sides of the disk, and what a stop may leave of them.
use Rattle.std.specs.Prelude.{◌≡◌, ◌⊎◌, ◌<◌, ◌≤◌, ◌+◌, ℕ, Bool, true, false, max, min, List, [], ◌∷◌, ◌++◌, length, take, drop, slice_index, fold}
use Rattle.lab_base.specs.Lists.{Has}
use Rattle.plant.specs.declared.step.Side.{Side}
use Rattle.plant.specs.declared.step.Side.TheVariants.{A, B}
use Rattle.plant.specs.Events.{Event, Wrote, Synced, Cut, Restarted}

-- a side: the durable bytes, the bytes as read, and the ranges written since it was last synced, each with its end
pub record Disk : Type 0 where
  pub durable : List ℕ
  pub reads : List ℕ
  pub written : List (ℕ × ℕ)

-- bytes at an offset, and the rest as it was
abbrev pub put : List ℕ → ℕ → List ℕ → List ℕ
put old at bytes = take at old ++ bytes ++ drop (at + length bytes) old

-- a side after a write, a sync or a cut
abbrev pub wrote : Disk → ℕ → List ℕ → Disk
wrote d at bytes = record { durable = d.durable; reads = put d.reads at bytes; written = (at, at + length bytes) ∷ d.written }

abbrev pub synced : Disk → Disk
synced d = record { durable = d.reads; reads = d.reads; written = [] }

abbrev pub shortened : Disk → ℕ → Disk
shortened d n = record { durable = d.durable; reads = take n d.reads; written = d.written }

-- the furthest end of a written range
abbrev pub furthest : List (ℕ × ℕ) → ℕ
furthest [] = 0
furthest (r ∷ rs) = max r.1 (furthest rs)

-- AN IMAGE that a stop may leave: each byte that was durable and that no write touched is as it was.
pub record IsImage (d : Disk) (image : List ℕ) : Type 0 where
  pub no_shorter : min (length d.durable) (length d.reads) ≤ length image
  pub no_longer : length image ≤ max (max (length d.durable) (length d.reads)) (furthest d.written)
  pub kept : (k : ℕ) → k < length d.durable → k < length image → ((r : ℕ × ℕ) → Has d.written r → (k < r.0) ⊎ (r.1 ≤ k)) → slice_index image k ≡ slice_index d.durable k

abbrev pub same_side : Side → Side → Bool
same_side A A = true
same_side B B = true
same_side a b = false

-- a side whose bytes are all durable
abbrev pub at_once : List ℕ → Disk
at_once bytes = record { durable = bytes; reads = bytes; written = [] }

abbrev pub on_side : Bool → (Disk → Disk) → Disk → Disk
on_side true change d = change d
on_side false change d = d

-- a side after a step, and after a trace
abbrev pub disk_after : Side → Disk → Event → Disk
disk_after side d (Wrote s at bytes) = on_side (same_side s side) (λ x. wrote x at bytes) d
disk_after side d (Synced s) = on_side (same_side s side) synced d
disk_after side d (Cut s size) = on_side (same_side s side) (λ x. shortened x size) d
disk_after A d (Restarted a b) = at_once a
disk_after B d (Restarted a b) = at_once b
disk_after side d event = d

abbrev pub disk : Side → List Event → Disk
disk side trace = fold (disk_after side) (at_once []) trace

-- both sides are images that are possible after the trace, each chosen by itself
abbrev pub ArePossible : List Event → List ℕ → List ℕ → Type 0
ArePossible trace a b = IsImage (disk A trace) a × IsImage (disk B trace) b
