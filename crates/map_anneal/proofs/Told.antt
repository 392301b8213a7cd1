-- Moves that are known to cost as much.
use Rattle.std.proofs.Common.{◌≡◌, ◌≤◌, ℕ, List, Some, refl, sym, subst}
use Rattle.lab_base.specs.declared.ids.IfaceId.{IfaceId}
use Rattle.virt_topo.specs.declared.mapping.Mapping.{Mapping}
use Rattle.lab_model.specs.Shapes.{Place}
use Rattle.node_maps.specs.NodeMaps.{plugs_of}
use Rattle.node_maps.proofs.Assembled.{parts_of_map}
use Rattle.node_maps.proofs.MapLaws.{mapped_is}
use Rattle.map_anneal.specs.Sought.{Sought, mapped, price}
use Rattle.map_anneal.proofs.Undone.{mapping_is}

-- these places cost at least that by the plugs that the rule gives
abbrev pub IsOver : Sought → ℕ → List Place → Type 0
IsOver s below places = (plugs : List IfaceId) → plugs_of s.lab s.wiring places ≡ Some plugs → below ≤ price s (record { places = places; plugs = plugs })

-- the node map of places over the bound is
pub map_over : (s : Sought) (below : ℕ) (places : List Place) (m : Mapping) → IsOver s below places → mapped s places ≡ Some m → below ≤ price s m
map_over s below places m over found =
    let given = (parts_of_map s.lab s.free s.wiring places m found).given in
    let at = (mapped_is s.lab s.free s.wiring places m found).same_places in
    subst (λ (y : Mapping). below ≤ price s y) (mapping_is (record { places = places; plugs = m.plugs }) m (sym at) refl) (over m.plugs given)
