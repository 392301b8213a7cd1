use Rattle.std.proofs.Common.{◌≡◌, ◌<◌, ◌∙◌, ◌==◌, ℕ, List, length, map, get_or, All, ap, sym, subst, arith}
use Rattle.std.proofs.Math.ListN.{set}
use Rattle.std.proofs.lemmas.List.{length-map}
use Rattle.std.proofs.lemmas.Option.{same_Some}
use Rattle.lab_base.specs.declared.ids.IfaceId.{IfaceId}
use Rattle.virt_topo.specs.declared.mapping.Mapping.{Mapping}
use Rattle.trunk_sums.specs.Remade.{remade}
use Rattle.trunk_sums.specs.Totals.{used_of_all}
use Rattle.node_maps.specs.declared.ends.End.{End}
use Rattle.node_maps.specs.declared.index.NodeIface.{NodeIface}
use Rattle.node_maps.specs.Indexed.{ifaces_of}
use Rattle.node_maps.proofs.InOrder.{in_order_few}
use Rattle.node_maps.proofs.IndexLaws.{ifaces_within}
use Rattle.node_maps.proofs.Shaped.{shaped}
use Rattle.map_state.specs.Nodes.{numbers_of, changes_of, no_end}
use Rattle.map_state.proofs.Alikes.{candidate_within}
use Rattle.map_state.proofs.StateLaws.{shaped_at}
use Rattle.map_state.proofs.LoneLaws.{asked_of, lone_changes, lone_plugs}
use Rattle.map_state.proofs.PartSums.{uses_are}
use Rattle.map_state.proofs.HostingLaws.{used_alone}
use Rattle.map_state.proofs.state.MapState.predict.Goals as goal

pub can_predict-requires-clause-node : goal.can_predict-requires-clause-node
can_predict-requires-clause-node c =
    let x = c.args.search.now.mapper in
    let laid = c.requires.state.state in
    let lt : c.args.virt < length c.args.self.now.mapping.places = (let all = laid.shaped.places in let virt = c.requires.virt in omega (arith, virt, all)) in
    (candidate_within x.lab.now x.free.now x.wiring.now c.args.self.now.mapping.places c.args.virt c.args.place.now laid.choice lt c.requires.among).0

pub soft_after-soft-requires-clause-node : goal.soft_after-soft-requires-clause-node
soft_after-soft-requires-clause-node c =
    let x = c.args.search.now.mapper in
    let laid = c.requires.state.state in
    let lt : c.args.virt < length c.args.self.now.mapping.places = (let all = laid.shaped.places in let virt = c.requires.virt in omega (arith, virt, all)) in
    (candidate_within x.lab.now x.free.now x.wiring.now c.args.self.now.mapping.places c.args.virt c.args.place.now laid.choice lt c.requires.among).0

pub soft_after-soft-requires-clause-asked : goal.soft_after-soft-requires-clause-asked
soft_after-soft-requires-clause-asked c =
    let x = c.args.search.now.mapper in
    asked_of x.lab.now x.free.now x.wiring.now c.args.self.now.mapping.places c.args.virt c.requires.state.state.choice c.requires.virt

pub uses_in_order-uses-requires-clause-few : goal.uses_in_order-uses-requires-clause-few
uses_in_order-uses-requires-clause-few c =
    let x = c.args.search.now in
    let n = c.args.place.now.0.0 in
    let end : ℕ → End = λ k. get_or x.mapper.ends.now k no_end in
    let numbers = numbers_of 0 (λ e. e.node == c.args.virt) x.mapper.ends.now in
    let lone = c.can_predict.ensures.0 c.if-not-can_predict.false in
    let few = in_order_few (map end numbers) (ifaces_of 0 x.mapper.lab.now.ifaces n) lone.in_order in
    let all = length-map numbers end in
    let ifaces : length c.of.result.now ≡ length (ifaces_of 0 x.mapper.lab.now.ifaces n) = ap length (c.of.ensures ∙ c.requires.search.mapper.ifaces.each n) in
    omega (arith, few, all, ifaces)

pub uses_in_order-uses-requires-clause-ifaces : goal.uses_in_order-uses-requires-clause-ifaces
uses_in_order-uses-requires-clause-ifaces c =
    let x = c.args.search.now.mapper in
    let n = c.args.place.now.0.0 in
    subst (λ (l : List NodeIface). All (λ (y : NodeIface). y.id.0 < length x.lab.now.ifaces) l) (sym (c.of.ensures ∙ c.requires.search.mapper.ifaces.each n))
    (ifaces_within 0 (length x.lab.now.ifaces) x.lab.now.ifaces n (omega arith))

pub returns-clause-parts : goal.returns-clause-parts
returns-clause-parts c = λ plugs given.
    let x = c.args.search.now in
    let lab = x.mapper.lab.now in
    let w = x.mapper.wiring.now in
    let b = c.args.self.now in
    let m = b.mapping in
    let v = c.args.virt in
    let p = c.args.place.now in
    let laid = c.requires.state.state in
    let all = laid.shaped.places in
    let virt = c.requires.virt in
    let lt : v < length m.places = omega (arith, virt, all) in
    let within = candidate_within lab x.mapper.free.now w m.places v p laid.choice lt c.requires.among in
    let lone = c.can_predict.ensures.0 c.if-not-can_predict.false in
    let moved : Mapping = record { places = set m.places v p; plugs = plugs } in
    let made : remade m.plugs (lone_changes x v p) ≡ plugs = same_Some (remade m.plugs (lone_changes x v p)) plugs (sym (lone_plugs x b v p c.requires.search c.requires.state lt within.0 within.1 lone) ∙ given) in
    let there = shaped_at lab w m v p laid.shaped within.0 within.1 in
    let fit = shaped lab w moved.places plugs c.requires.search.mapper.sound there.places (record { in_nodes = there.in_nodes; of_node = there.of_node }) given in
    let ifaces = c.of.ensures ∙ c.requires.search.mapper.ifaces.each p.0.0 in
    let own = numbers_of 0 (λ e. e.node == v) x.mapper.ends.now in
    let uses = c.uses_in_order-uses.ensures
    ∙ (λ j. used_of_all lab w (remade (c.as_slice.ensures j) (changes_of x.table.now.rows.items own (map (λ y. y.id) (ifaces j)))))
    ∙ ap (λ (l : List IfaceId). used_of_all lab w l) made
    ∙ uses_are lab w moved fit in
    let nodes = laid.hosting.nodes ∙ sym (used_alone m.places v p lt lone.alone lone.empty) in
    let soft = c.soft_after-soft.ensures.soft in
    (λ j. record { uses = uses j; nodes = nodes j; soft = soft j })

-- the mapping of these places with the plugs of the rule has them
pub returns-clause-fit : goal.returns-clause-fit
returns-clause-fit c =
    let x = c.args.search.now in
    let lab = x.mapper.lab.now in
    let w = x.mapper.wiring.now in
    let b = c.args.self.now in
    let m = b.mapping in
    let v = c.args.virt in
    let p = c.args.place.now in
    let laid = c.requires.state.state in
    let all = laid.shaped.places in
    let virt = c.requires.virt in
    let lt : v < length m.places = omega (arith, virt, all) in
    let within = candidate_within lab x.mapper.free.now w m.places v p laid.choice lt c.requires.among in
    let lone = c.can_predict.ensures.0 c.if-not-can_predict.false in
    let plugs = remade m.plugs (lone_changes x v p) in
    let given = lone_plugs x b v p c.requires.search c.requires.state lt within.0 within.1 lone in
    let there = shaped_at lab w m v p laid.shaped within.0 within.1 in
    record {
      lab = lab;
      wiring = w;
      mapping = record { places = set m.places v p; plugs = plugs };
      kept = c.range-kept.ensures.lab;
      sound = c.requires.search.mapper.sound;
      shaped = shaped lab w (set m.places v p) plugs c.requires.search.mapper.sound there.places (record { in_nodes = there.in_nodes; of_node = there.of_node }) given;
      are = returns-clause-parts c plugs given;
    }
