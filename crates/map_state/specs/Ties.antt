-- VIRTUAL NODES THAT MUST HAVE ONE TYPE.
use Rattle.std.specs.Prelude.{◌≡◌, ◌<◌, Bool, true, List, length, All, slice_index_or}
use Rattle.lab_base.specs.Names.{same_name}
use Rattle.virt_topo.specs.declared.wiring.Wiring.{Wiring}
use Rattle.lab_model.specs.Shapes.{Place}
use Rattle.lab_model.specs.Rules.{no_place}
use Rattle.lab_model.specs.Feasible.{AllPass}
use Rattle.node_maps.specs.Moved.{has_class_type}
use Rattle.map_state.specs.declared.ties.Tie.{Tie}

-- both virtual nodes have one type
abbrev pub have_one_type : List Place → Tie → Bool
have_one_type places t = same_name (slice_index_or places t.first no_place).1 (slice_index_or places t.member no_place).1

-- the member keeps F3's words on its class where both have one type
pub record IsTie (w : Wiring) (t : Tie) : Type 0 where
  pub first : t.first < length w.nodes
  pub member : t.member < length w.nodes
  pub typed : (places : List Place) → length places ≡ length w.nodes → has_class_type w places t.member ≡ have_one_type places t

-- the ties of all members of classes of weight 1000 or more
pub record AreTies (w : Wiring) (ties : List Tie) : Type 0 where
  pub each : All (IsTie w) ties
  pub all : (places : List Place) → length places ≡ length w.nodes → All (λ t. have_one_type places t ≡ true) ties → AllPass (length w.nodes) (has_class_type w places)
