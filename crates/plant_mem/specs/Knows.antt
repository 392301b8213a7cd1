-- The knowledge of nodes that a plant in memory keeps.
use Rattle.std.specs.Prelude.{◌≡◌, ℕ, zero, suc, ◌+◌, List, Option, Some, is_some, option_map, if◌then◌else◌}
use Rattle.lab_base.specs.declared.boot.Boot.{Boot}
use Rattle.plant_mem.specs.declared.nodes.NodeState.{NodeState}
use Rattle.plant_mem.specs.declared.pipes.PipeState.{PipeState}
use Rattle.plant_mem.specs.Boots.{state_in, os_in}
use Rattle.plant_mem.specs.Pipes.{pipe_in}
use Rattle.plant.specs.Events.{Event}
use Rattle.plant.specs.Worlds.{PipeRow, world_of}
use Rattle.plant.specs.Readings.{pipe_of}

-- where the trace tells the boot state of a node, the table has that one; the tables have the OS and the pipes of each node
pub record Knows (trace : List Event) (entries : List NodeState) (pipes : List PipeState) : Type 0 where
  pub states : (node : List ℕ) (state : Boot) → ((world_of trace).node node).boot ≡ Some state → state_in node entries ≡ state
  pub oses : (node : List ℕ) → os_in node entries ≡ ((world_of trace).node node).os
  pub set : (node : List ℕ) (k : ℕ) → option_map pipe_of (pipe_in node k pipes) ≡ ((world_of trace).node node).pipes k

-- how many of the pipes with numbers below n are set
abbrev pub pipes_below : ℕ → (ℕ → Option PipeRow) → ℕ
pipes_below zero pipes = 0
pipes_below (suc n) pipes = pipes_below n pipes + (if is_some (pipes n) then 1 else 0)

-- how many pipes are set
unfoldable pub pipe_count : (ℕ → Option PipeRow) → ℕ
pipe_count pipes = pipes_below 65536 pipes
