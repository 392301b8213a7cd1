use Rattle.std.proofs.Common.{◌≡◌, ℕ, List, Some, IfSome, ap, subst, arith}
use Rattle.lab_base.specs.declared.ids.IfaceId.{IfaceId}
use Rattle.virt_topo.specs.declared.mapping.Mapping.{Mapping}
use Rattle.virt_topo.specs.Wirings.{virt_at}
use Rattle.cost_rule.specs.declared.parts.Parts.{Parts}
use Rattle.cost_rule.specs.Cost.{soft}
use Rattle.cost_rule.specs.Parts.{parts_of, cost_of_parts, AreParts}
use Rattle.cost_rule.proofs.PartLaws.{cost_is}
use Rattle.node_maps.specs.NodeMaps.{plugs_of}
use Rattle.map_state.specs.Members.{asked_index}
use Rattle.map_state.specs.Hosted.{placed_at}
use Rattle.map_state.specs.declared.predicted.Predicted.{Predicted}
use Rattle.map_anneal.proofs.tried.Tried.least_of.Goals as goal

pub returns-in-Some-clause-least : goal.returns-in-Some-clause-least
returns-in-Some-clause-least c = λ number plugs given.
    let x = c.args.search.now.mapper in
    let places = (placed_at c.args.self.now.state.mapping c.args.node c.args.place.now).places in
    let m : Mapping = record { places = places; plugs = plugs } in
    let IsTold : Predicted → Type 0 = λ t. (own : List IfaceId) → plugs_of x.lab.now x.wiring.now places ≡ Some own → t.parts ≡ parts_of x.lab.now x.wiring.now (record { places = places; plugs = own }) in
    let told = subst (λ o. IfSome o IsTold) c.in-Some.is c.predict.ensures.parts plugs given in
    let same : ◌≡◌ {A = ℕ} (cost_of_parts number c.in-Some.told.parts) (cost_of_parts number (parts_of x.lab.now x.wiring.now m)) = ap (cost_of_parts number) told in
    omega (arith, same, cost_is number x.lab.now x.wiring.now m)

pub returns-in-Some-clause-fit : goal.returns-in-Some-clause-fit
returns-in-Some-clause-fit c = subst (λ o. IfSome o (λ (t : Predicted). AreParts t.parts)) c.in-Some.is c.predict.ensures.fit

pub returns-in-Some-clause-soft : goal.returns-in-Some-clause-soft
returns-in-Some-clause-soft c =
    let x = c.args.search.now.mapper in
    let m = placed_at c.args.self.now.state.mapping c.args.node c.args.place.now in
    subst (λ o. IfSome o (λ (t : Predicted). t.parts.soft ≡ soft x.lab.now x.wiring.now m)) c.in-Some.is c.predict.ensures.soft

pub returns-in-Some-clause-counted : goal.returns-in-Some-clause-counted
returns-in-Some-clause-counted c =
    let w = c.args.search.now.mapper.wiring.now in
    subst (λ o. IfSome o (λ (t : Predicted). t.counted ≡ asked_index w (virt_at w c.args.node).asks c.args.place.now.1)) c.in-Some.is c.predict.ensures.counted

pub returns-clause-least : goal.returns-clause-least
returns-clause-least c = λ number plugs given. c.predict_but_uses.ensures.least number plugs

pub returns-clause-soft : goal.returns-clause-soft
returns-clause-soft c = ap (λ (p : Parts). p.soft) c.predict_but_uses.ensures.parts
