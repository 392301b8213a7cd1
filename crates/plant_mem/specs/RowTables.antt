-- The table of rows of a plant in memory.
use Rattle.std.specs.Prelude.{◌≡◌, ◌==◌, ◌&&◌, ◌||◌, not, nat_lt, ℕ, suc, Bool, true, List, [], ◌∷◌, Option, Some, None, filter_map, if◌then◌else◌}
use Rattle.std.specs.List.{list_all, list_any}
use Rattle.std.specs.Str.{bytes_eq}
use Rattle.lab_base.specs.declared.ids.VlanId.{VlanId}
use Rattle.plant.specs.Worlds.{World}
use Rattle.plant.specs.Worlds as worlds
use Rattle.plant_mem.specs.declared.rows.Row.{Row}

-- a row as a world has it
abbrev pub row_of : Row → worlds.Row
row_of row = record { switch = row.switch; port = row.port; vlan = row.vlan.0 }

-- the port and the VLAN id of a row
abbrev pub entry_of : Row → ℕ × ℕ
entry_of r = (r.port, r.vlan.0)

-- the rows of a switch, in order
abbrev pub entry_on : List ℕ → Row → Option (ℕ × VlanId)
entry_on switch r = if bytes_eq r.switch switch then Some (r.port, r.vlan) else None

abbrev pub entries_on : List ℕ → List Row → List (ℕ × VlanId)
entries_on switch rows = filter_map (entry_on switch) rows

-- the rows are one; a row comes before another one of its switch
abbrev pub is_same : Row → Row → Bool
is_same a b = bytes_eq a.switch b.switch && ((a.port == b.port) && (a.vlan.0 == b.vlan.0))

abbrev pub is_earlier : Row → Row → Bool
is_earlier a b = bytes_eq a.switch b.switch && (nat_lt a.port b.port || ((a.port == b.port) && nat_lt a.vlan.0 b.vlan.0))

-- THE TABLE HAS THE ROWS THAT STAND, each once, those of a switch by port and then by VLAN id; ports and ids fit their types
abbrev pub is_ordered : Row → Row → Bool
is_ordered a b = not (bytes_eq a.switch b.switch) || is_earlier a b

abbrev pub are_ordered : List Row → Bool
are_ordered [] = true
are_ordered (r ∷ rows) = list_all (is_ordered r) rows && are_ordered rows

abbrev pub is_fit : Row → Bool
is_fit r = nat_lt r.port 65536 && nat_lt r.vlan.0 65536

pub record AreRows (w : World) (rows : List Row) : Type 0 where
  pub rising : are_ordered rows ≡ true
  pub exact : (r : Row) → list_any (is_same r) rows ≡ w.rows (row_of r)
  pub fit : list_all is_fit rows ≡ true

-- how many rows at the front don't come later than a row; the rows with that one before the first that comes later
abbrev pub index_for : Row → List Row → ℕ
index_for row [] = 0
index_for row (other ∷ rows) = if is_earlier row other then 0 else suc (index_for row rows)

abbrev pub placed : Row → List Row → List Row
placed row [] = row ∷ []
placed row (other ∷ rows) = if is_earlier row other then row ∷ other ∷ rows else other ∷ placed row rows

-- the table with a row; how many rows at the front are not that row, and the table without it
abbrev pub joined : Row → List Row → List Row
joined row rows = if list_any (is_same row) rows then rows else placed row rows

abbrev pub index : Row → List Row → ℕ
index row [] = 0
index row (other ∷ rows) = if is_same row other then 0 else suc (index row rows)

abbrev pub left : Row → List Row → List Row
left row [] = []
left row (other ∷ rows) = if is_same row other then rows else other ∷ left row rows
