-- The pipes of nodes that a plant in memory keeps.
use Rattle.std.specs.Prelude.{◌≡◌, ◌<◌, ◌≤◌, ◌&&◌, ◌==◌, ℕ, Bool, List, Option, Some, None, length, slice_index_or, if◌then◌else◌}
use Rattle.std.specs.Cmp.Lexicographic.{slice_cmp}
use Rattle.std.specs.List.{find}
use Rattle.std.specs.Ordering.{nat_cmp, ordering_then}
use Rattle.std.specs.Str.{bytes_eq}
use Rattle.std.specs.declared.cmp.Ordering.{Ordering}
use Rattle.std.specs.declared.cmp.Ordering.TheVariants.{Less}
use Rattle.plant.specs.declared.device.DeviceOp.{DeviceOp}
use Rattle.plant.specs.declared.device.DeviceOp.TheVariants.{Shape, Wipe}
use Rattle.plant.specs.Worlds as worlds
use Rattle.plant.specs.declared.pipe_row.PipeRow.{PipeRow}
use Rattle.plant_mem.specs.declared.pipes.PipeState.{PipeState}

-- the entry is that of the node's pipe
abbrev pub is_pipe : List ℕ → ℕ → PipeState → Bool
is_pipe node number entry = bytes_eq entry.node node && (entry.number == number)

abbrev pub row_or_none : Option PipeState → Option PipeRow
row_or_none None = None
row_or_none (Some entry) = entry.row

-- the pipe that a table has for a node and a number
abbrev pub pipe_in : List ℕ → ℕ → List PipeState → Option PipeRow
pipe_in node number entries = row_or_none (find (is_pipe node number) entries)

-- pipes stand by their nodes' names, and those of a node by their numbers
abbrev pub pipe_cmp : List ℕ × ℕ → List ℕ × ℕ → Ordering
pipe_cmp a b = ordering_then (slice_cmp nat_cmp a.0 b.0) (nat_cmp a.1 b.1)

abbrev pub key_of : PipeState → List ℕ × ℕ
key_of entry = (entry.node, entry.number)

abbrev pub PipesRise : List PipeState → Type 0
PipesRise entries =
    (i j : ℕ) (d : PipeState) → i < j → j < length entries → pipe_cmp (key_of (slice_index_or entries i d)) (key_of (slice_index_or entries j d)) ≡ Less

-- no pipe with that number or a greater one is set
abbrev pub EndsAt : ℕ → List PipeState → Type 0
EndsAt n entries = (node : List ℕ) (k : ℕ) → n ≤ k → pipe_in node k entries ≡ None

-- the pipe of that number of the named node after a command that was applied
abbrev pub pipe_after : DeviceOp → List ℕ → ℕ → Option worlds.PipeRow → Option worlds.PipeRow
pipe_after (Shape node pipe from to there back) name k had =
    if bytes_eq node name && (pipe == k) then Some (record { from = from; to = to; there = there; back = back }) else had
pipe_after (Wipe node) name k had = if bytes_eq node name then None else had
pipe_after op name k had = had
