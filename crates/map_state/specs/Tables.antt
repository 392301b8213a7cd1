-- The tables that tries use.
use Rattle.std.specs.Prelude.{◌≡◌, ◌↔◌, ◌<◌, ◌==◌, ℕ, true, List, [], length, map, slice_index_or}
use Rattle.phys_lab.specs.Labs.{Lab}
use Rattle.phys_lab.specs.Sides.{joined}
use Rattle.virt_topo.specs.declared.wiring.Wiring.{Wiring}
use Rattle.trunk_sums.specs.Between.{IsTable}
use Rattle.trunk_sums.specs.Summed.{IsRow, first_end}
use Rattle.trunk_sums.specs.declared.sums.EndRow.{EndRow}
use Rattle.node_maps.specs.NodeMaps.{candidates, ends_of}
use Rattle.node_maps.specs.Mappers.{IsMapper}
use Rattle.node_maps.specs.Rooms.{room_of}
use Rattle.map_state.specs.declared.table.Table.{Table}
use Rattle.map_state.specs.declared.search.Search.{Search}
use Rattle.map_state.specs.Nodes.{numbers_of, no_row}
use Rattle.map_state.specs.Softs.{AreSofts}
use Rattle.map_state.specs.Speeds.{AreSpeeds}
use Rattle.map_state.specs.Ties.{AreTies}

-- all switches are joined
abbrev pub AreAllJoined : Lab → Type 0
AreAllJoined lab = (a b : ℕ) → a < length lab.switches → b < length lab.switches → joined lab.trunks a b ≡ true

-- by end its row
pub record AreRows (w : Wiring) (rows : List EndRow) : Type 0 where
  pub one_each : length rows ≡ length (ends_of w.segments)
  pub each : (k : ℕ) → k < length rows → IsRow w k (slice_index_or rows k no_row)

-- by virtual node the numbers of its ends
pub record AreOwn (w : Wiring) (lists : List (List ℕ)) : Type 0 where
  pub one_each : length lists ≡ length w.nodes
  pub each : (v : ℕ) → v < length w.nodes → slice_index_or lists v [] ≡ numbers_of 0 (λ e. e.node == v) (ends_of w.segments)

-- by segment the number of its first end
pub record AreFirsts (w : Wiring) (firsts : List ℕ) : Type 0 where
  pub one_each : length firsts ≡ length w.segments
  pub each : (s : ℕ) → s < length w.segments → slice_index_or firsts s 0 ≡ first_end w.segments s

pub record IsTableOf (lab : Lab) (w : Wiring) (x : Table) : Type 0 where
  pub rows : AreRows w x.rows.items
  pub own : AreOwn w x.own.items
  pub firsts : AreFirsts w x.firsts.items
  pub crossings : IsTable lab x.crossings
  pub ties : AreTies w x.ties.items
  pub joined : (x.joined ≡ true) ↔ AreAllJoined lab
  pub softs : AreSofts lab w x.softs
  pub speeds : AreSpeeds lab w x.speeds

-- what the node maps are made from, and what their tries look up: the tables, the candidates, and their rooms
pub record IsSearch (x : Search) : Type 0 where
  pub mapper : IsMapper x.mapper
  pub table : IsTableOf x.mapper.lab.now x.mapper.wiring.now x.table.now
  pub listed : x.candidates.now ≡ candidates x.mapper.lab.now x.mapper.free.now x.mapper.wiring.now
  pub rooms : x.rooms.now ≡ map (map (room_of x.mapper.lab.now)) x.candidates.now
