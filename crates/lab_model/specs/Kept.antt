-- The nodes that a change keeps.
use Rattle.std.specs.Prelude.{ℕ, Bool, true, false, ◌&&◌, ◌==◌, List, Option, Some, None}
use Rattle.std.specs.Cmp.Lexicographic.{pointwise}
use Rattle.std.specs.Str.{bytes_eq}
use Rattle.lab_base.specs.declared.rates.Rates.{Rates}
use Rattle.phys_lab.specs.Labs.{Lab}
use Rattle.virt_topo.specs.declared.mapping.Mapped.{Mapped}
use Rattle.plant.specs.Worlds.{PipeRow}
use Rattle.lab_model.specs.Claims.{places_it}
use Rattle.lab_model.specs.Wants.{os_on, pipes_on}

-- the same rates, the same pipe, and the same OS
abbrev pub same_rates : Rates → Rates → Bool
same_rates a b = (a.kbps == b.kbps) && (a.micros == b.micros) && (a.ppm == b.ppm)

abbrev pub same_pipe : PipeRow → PipeRow → Bool
same_pipe a b = bytes_eq a.from b.from && bytes_eq a.to b.to && same_rates a.there b.there && same_rates a.back b.back

abbrev pub same_os : Option (List ℕ) → Option (List ℕ) → Bool
same_os (Some a) (Some b) = bytes_eq a b
same_os None None = true
same_os a b = false

-- a node that both mappings place something on, and of which they want the same
abbrev pub is_kept : Lab → Option Mapped → Option Mapped → List ℕ → Bool
is_kept lab (Some a) (Some b) name =
    places_it lab a name && places_it lab b name
    && same_os (os_on lab a.wiring.nodes a.mapping.places name) (os_on lab b.wiring.nodes b.mapping.places name)
    && pointwise same_pipe (pipes_on lab a name) (pipes_on lab b name)
is_kept lab old new name = false
