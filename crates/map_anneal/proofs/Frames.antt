-- WHAT A TRY READS: two maps that agree on it, and the places that the try makes of each.
use Rattle.std.specs.Prelude.{◌≡◌, ◌⊎◌, ◌<◌, ◌+◌, ℕ, Bool, true, false, List, [], length, Some, slice_index_or}
use Rattle.lab_base.specs.declared.ids.IfaceId.{IfaceId}
use Rattle.phys_lab.specs.Labs.{Lab}
use Rattle.virt_topo.specs.declared.wiring.Wiring.{Wiring}
use Rattle.virt_topo.specs.declared.mapping.Mapping.{Mapping}
use Rattle.lab_model.specs.Shapes.{Place}
use Rattle.lab_model.specs.Uses.{switch_of}
use Rattle.lab_model.specs.Rules.{no_place}
use Rattle.cost_rule.specs.Cost.{sum_below, class_soft}
use Rattle.node_maps.specs.NodeMaps.{ends_of, plugs_of}
use Rattle.node_maps.specs.Moved.{AlikeBut, IsOn}
use Rattle.trunk_sums.proofs.Replugged.{IsIn}
use Rattle.map_state.specs.Nodes.{no_end}
use Rattle.map_anneal.proofs.Switches.{AreAlikeAt}

-- the place is on neither of the two nodes
abbrev pub IsOff : (a b : ℕ) → Place → Type 0
IsOff a b p = (p.0.0 ≡ a → ⊥) × (p.0.0 ≡ b → ⊥)

-- each virtual node has the same place in both, or is on neither of the two nodes in both
pub record AlikeOn (a b : ℕ) (places others : List Place) : Type 0 where
  pub count : length places ≡ length others
  pub each : (v : ℕ) (d : Place) → v < length places → (slice_index_or places v d ≡ slice_index_or others v d) ⊎ (IsOff a b (slice_index_or places v d) × IsOff a b (slice_index_or others v d))

-- where the virtual node of an end is placed
abbrev pub end_place : Wiring → List Place → ℕ → Place
end_place w places e = slice_index_or places (slice_index_or (ends_of w.segments) e no_end).node no_place

-- wherever the rule serves the places that the try makes, the end goes to no other switch
abbrev pub KeepsSwitch : Lab → Wiring → Mapping → (tried : List Place) → ℕ → Type 0
KeepsSwitch lab w m tried e = (plugs : List IfaceId) → plugs_of lab w tried ≡ Some plugs → switch_of lab (slice_index_or plugs e (record { 0 = 0 })) ≡ switch_of lab (slice_index_or m.plugs e (record { 0 = 0 }))

-- A TRY ON TWO MAPS m AND x makes `tried` of the places of m and `others` of those of x. It changes places on nodes a and b alone; on these
-- nodes both agree, before and after; segments that are marked as touched sit alike in both maps, and no end of another one goes to another switch
pub record IsFrame (lab : Lab) (w : Wiring) (m x : Mapping) (tried others : List Place) (a b : ℕ) (touched : ℕ → Bool) : Type 0 where
  pub one : AlikeBut a b tried m.places
  pub two : AlikeBut a b others x.places
  pub before : AlikeOn a b m.places x.places
  pub after : AlikeOn a b tried others
  pub switches : (s : ℕ) → s < length w.segments → touched s ≡ true → AreAlikeAt lab w m x s
  pub untouched : (s e : ℕ) → touched s ≡ false → IsIn w.segments s e → IsOff a b (end_place w tried e) ⊎ KeepsSwitch lab w m tried e

-- WHAT THE TRY READS OF CLASSES: what those below 1000 cost changes alike
abbrev pub AreClassesAlike : Wiring → Mapping → Mapping → (tried others : List Place) → Type 0
AreClassesAlike w m x tried others =
    sum_below (length w.classes) (class_soft w (record { places = tried; plugs = [] })) + sum_below (length w.classes) (class_soft w x)
    ≡ sum_below (length w.classes) (class_soft w (record { places = others; plugs = [] })) + sum_below (length w.classes) (class_soft w m)

-- the plugs after the try on the first map, where `new` are those after the try on the second: an end on the two nodes gets the same, each other one keeps its own
pub record Follows (lab : Lab) (w : Wiring) (m x : Mapping) (tried : List Place) (a b : ℕ) (new : List IfaceId) : Type 0 where
  pub plugs : List IfaceId
  pub given : plugs_of lab w tried ≡ Some plugs
  pub each : (e : ℕ) (d : IfaceId) → e < length (ends_of w.segments) →
      (slice_index_or plugs e d ≡ slice_index_or new e d)
      ⊎ ((slice_index_or plugs e d ≡ slice_index_or m.plugs e d) × (slice_index_or new e d ≡ slice_index_or x.plugs e d))
  pub on : (e : ℕ) (d : IfaceId) → e < length (ends_of w.segments) → IsOn a b (end_place w tried e) → slice_index_or plugs e d ≡ slice_index_or new e d
  pub others : (e : ℕ) (d : IfaceId) → e < length (ends_of w.segments) → IsOff a b (end_place w tried e) →
      (slice_index_or plugs e d ≡ slice_index_or m.plugs e d) × (slice_index_or new e d ≡ slice_index_or x.plugs e d)
