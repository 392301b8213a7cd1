-- Rows among others.
use Rattle.std.specs.Prelude.{◌==◌, ◌&&◌, Bool, List}
use Rattle.std.specs.List.{list_any, list_all}
use Rattle.std.specs.Str.{bytes_eq}
use Rattle.plant.specs.Worlds.{Row}

-- two rows are one
abbrev pub is_row : Row → Row → Bool
is_row a b = bytes_eq a.switch b.switch && (a.port == b.port && a.vlan == b.vlan)

-- a row is among others; each of them is
abbrev pub is_among : List Row → Row → Bool
is_among rows row = list_any (is_row row) rows

abbrev pub are_among : List Row → List Row → Bool
are_among rows others = list_all (is_among others) rows
