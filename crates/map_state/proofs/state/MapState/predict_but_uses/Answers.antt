use Rattle.std.proofs.Common.{◌≡◌, ◌<◌, ℕ, length, refl, ap, sym, subst, arith}
use Rattle.virt_topo.specs.declared.mapping.Mapping.{Mapping}
use Rattle.cost_rule.specs.declared.parts.Parts.{Parts}
use Rattle.cost_rule.specs.Parts.{parts_of, cost_of_parts, without_uses, AreParts}
use Rattle.cost_rule.proofs.PartLaws.{cost_is}
use Rattle.cost_rule.proofs.UseLaws.{parts_without_uses, costs_less}
use Rattle.map_state.specs.Hosted.{placed_at}
use Rattle.map_state.proofs.Alikes.{candidate_within}
use Rattle.map_state.proofs.StateLaws.{shaped_at}
use Rattle.map_state.proofs.LoneLaws.{asked_of}
use Rattle.map_state.proofs.state.MapState.predict_but_uses.Goals as goal

pub soft_after-soft-requires-clause-node : goal.soft_after-soft-requires-clause-node
soft_after-soft-requires-clause-node c =
    let x = c.args.search.now.mapper in
    let laid = c.requires.state in
    let lt : c.args.virt < length c.args.self.now.mapping.places = (let all = laid.shaped.places in let virt = c.requires.virt in omega (arith, virt, all)) in
    (candidate_within x.lab.now x.free.now x.wiring.now c.args.self.now.mapping.places c.args.virt c.args.place.now laid.choice lt c.requires.among).0

pub soft_after-soft-requires-clause-asked : goal.soft_after-soft-requires-clause-asked
soft_after-soft-requires-clause-asked c =
    let x = c.args.search.now.mapper in
    asked_of x.lab.now x.free.now x.wiring.now c.args.self.now.mapping.places c.args.virt c.requires.state.choice c.requires.virt

pub nodes_after-nodes-requires-clause-node : goal.nodes_after-nodes-requires-clause-node
nodes_after-nodes-requires-clause-node c =
    let x = c.args.search.now.mapper in
    let laid = c.requires.state in
    let lt : c.args.virt < length c.args.self.now.mapping.places = (let all = laid.shaped.places in let virt = c.requires.virt in omega (arith, virt, all)) in
    (candidate_within x.lab.now x.free.now x.wiring.now c.args.self.now.mapping.places c.args.virt c.args.place.now laid.choice lt c.requires.among).0

pub returns-clause-parts : goal.returns-clause-parts
returns-clause-parts c = (λ j. record { uses = 0; nodes = c.nodes_after-nodes.ensures j; soft = c.soft_after-soft.ensures.soft j })

pub returns-clause-fit : goal.returns-clause-fit
returns-clause-fit c =
    let x = c.args.search.now.mapper in
    let m = c.args.self.now.mapping in
    let v = c.args.virt in
    let p = c.args.place.now in
    let laid = c.requires.state in
    let lt : v < length m.places = (let all = laid.shaped.places in let virt = c.requires.virt in omega (arith, virt, all)) in
    let within = candidate_within x.lab.now x.free.now x.wiring.now m.places v p laid.choice lt c.requires.among in
    let are : AreParts (parts_of x.lab.now x.wiring.now (placed_at m v p)) = record {
      lab = x.lab.now;
      wiring = x.wiring.now;
      mapping = placed_at m v p;
      kept = c.range-kept.ensures.lab;
      sound = c.requires.search.mapper.sound;
      shaped = shaped_at x.lab.now x.wiring.now m v p laid.shaped within.0 within.1;
      are = refl;
    } in
    subst (λ (q : Parts). AreParts q) (sym (returns-clause-parts c)) (parts_without_uses (parts_of x.lab.now x.wiring.now (placed_at m v p)) are)

pub returns-clause-least : goal.returns-clause-least
returns-clause-least c = λ number plugs.
    let x = c.args.search.now.mapper in
    let m : Mapping = record { places = (placed_at c.args.self.now.mapping c.args.virt c.args.place.now).places; plugs = plugs } in
    let less = costs_less number (parts_of x.lab.now x.wiring.now m) in
    let same : ◌≡◌ {A = ℕ} (cost_of_parts number (record { uses = 0; nodes = c.nodes_after-nodes.result; soft = c.soft_after-soft.result.0 })) (cost_of_parts number (without_uses (parts_of x.lab.now x.wiring.now m))) = ap (cost_of_parts number) (returns-clause-parts c) in
    let whole = cost_is number x.lab.now x.wiring.now m in
    omega (arith, less, same, whole)
