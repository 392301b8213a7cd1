-- The mapping that is planned.
use Rattle.std.proofs.Common.{◌≡◌, ◌<◌, ◌∙◌, ◌∷◌, [], ℕ, suc, List, length, Some, All, sym, arith}
use Rattle.std.proofs.Math.ListN.{set}
use Rattle.std.proofs.lemmas.Option.{same_Some}
use Rattle.lab_base.specs.declared.ids.IfaceId.{IfaceId}
use Rattle.virt_topo.specs.declared.mapping.Mapping.{Mapping}
use Rattle.lab_model.specs.Shapes.{Place, IsShaped}
use Rattle.trunk_sums.specs.declared.made.Change.{Change}
use Rattle.trunk_sums.specs.Remade.{remade, AreChanges}
use Rattle.trunk_sums.proofs.RemadeLaws.{all_set}
use Rattle.trunk_sums.proofs.ShareLaws.{remade_length}
use Rattle.node_maps.specs.NodeMaps.{node_map}
use Rattle.node_maps.proofs.MapLaws.{mapped_is}
use Rattle.map_state.specs.declared.state.MapState.{MapState}
use Rattle.map_state.specs.declared.search.Search.{Search}
use Rattle.map_state.specs.States.{IsMapState, IsPlanned, Was}
use Rattle.map_state.specs.Planned.{planned}
use Rattle.map_state.specs.Tables.{IsSearch}
use Rattle.map_state.proofs.StateLaws.{planned_plugs}

remade_within : (n : ℕ) (plugs : List IfaceId) (cs : List Change) → All (λ (i : IfaceId). i.0 < n) plugs → All (λ (c : Change). c.to.0 < n) cs → All (λ (i : IfaceId). i.0 < n) (remade plugs cs)
remade_within n plugs [] all to = all
remade_within n plugs (c ∷ cs) all to =
    remade_within n (set plugs c.end c.to) cs (all_set n plugs c.end c.to all (to 0 c (omega arith))) (λ k d lt. to (suc k) d (omega (arith, lt)))

pub planned_shaped : (x : Search) (b : MapState) → IsMapState x b → AreChanges x.mapper.lab.now x.mapper.wiring.now b.changes.items → IsShaped x.mapper.lab.now x.mapper.wiring.now (planned b)
planned_shaped x b laid changes =
    let shaped = laid.shaped in
    record {
      places = shaped.places;
      plugs = remade_length b.mapping.plugs b.changes.items ∙ shaped.plugs;
      in_nodes = shaped.in_nodes;
      in_lab = remade_within (length x.mapper.lab.now.ifaces) b.mapping.plugs b.changes.items shaped.in_lab changes.within;
      of_node = shaped.of_node;
    }

-- a node map of these places is the mapping that is planned
pub planned_is : (x : Search) (b : MapState) (n k : ℕ) (last : List Place) (m : Mapping) → IsSearch x → IsMapState x b → IsPlanned x b.mapping.places n k b.changes.items
    → Was x b.mapping.places b.mapping.plugs n k last → node_map x.mapper.lab.now x.mapper.free.now x.mapper.wiring.now b.mapping.places ≡ Some m → m ≡ planned b
planned_is x b n k last m is laid plan was found =
    let given = planned_plugs x b.mapping n k b.changes.items last is laid.shaped plan was in
    let its = mapped_is x.mapper.lab.now x.mapper.free.now x.mapper.wiring.now b.mapping.places m found in
    let plugs : m.plugs ≡ remade b.mapping.plugs b.changes.items = same_Some m.plugs (remade b.mapping.plugs b.changes.items) (sym its.given ∙ given) in
    let places = its.same_places in
    (λ j. record { places = places j; plugs = plugs j })
