-- The rooms of the tables of nodes and of pipes.
use Rattle.std.specs.Prelude.{ℕ, ◌-◌, min, vec_len, vec_capacity}
use Rattle.plant_mem.specs.declared.node_table.NodeTable.{NodeTable}

-- for how many entries of each there is room
abbrev pub node_room : NodeTable → ℕ
node_room t = min (vec_capacity t.nodes - vec_len t.nodes) (vec_capacity t.pipes - vec_len t.pipes)
