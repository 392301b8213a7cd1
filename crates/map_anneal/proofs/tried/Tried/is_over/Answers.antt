use Rattle.std.proofs.Common.{◌≡◌, ◌≤◌, ◌∙◌, ℕ, List, Option, IfSome, ap, sym, subst, arith}
use Rattle.std.proofs.lemmas.Bool.{leb-true}
use Rattle.std.proofs.lemmas.Option.{same_Some}
use Rattle.lab_base.specs.declared.ids.IfaceId.{IfaceId}
use Rattle.cost_rule.specs.declared.parts.Parts.{Parts}
use Rattle.cost_rule.specs.Parts.{parts_of, cost_of_parts}
use Rattle.cost_rule.proofs.PartLaws.{cost_is}
use Rattle.trunk_sums.specs.Remade.{remade}
use Rattle.map_state.specs.Planned.{planned}
use Rattle.map_state.proofs.StateLaws.{planned_changes, planned_plugs}
use Rattle.map_state.proofs.PlannedLaws.{planned_is}
use Rattle.lab_model.specs.Shapes.{Place}
use Rattle.node_maps.proofs.MapLaws.{mapped_is}
use Rattle.map_anneal.specs.Sought.{price}
use Rattle.map_anneal.specs.Searches.{sought_of}
use Rattle.map_anneal.proofs.tried.Tried.is_over.Goals as goal

pub foreseen-requires-clause-changes : goal.foreseen-requires-clause-changes
foreseen-requires-clause-changes g c =
    planned_changes c.args.search.now c.args.self.now.state.mapping.places c.args._first.0 c.args._second.0 c.args.self.now.state.changes.items c.requires.search c.requires.state.shaped.places c.requires.planned

pub returns-in-Some-clause-map : goal.returns-in-Some-clause-map
returns-in-Some-clause-map g c = λ is last was m found.
    let x = c.args.search.now in
    let lab = x.mapper.lab.now in
    let w = x.mapper.wiring.now in
    let b = c.args.self.now.state in
    let number = c.args.rule.now.number in
    let s = sought_of c.args.search.now number in
    let Foreseen : Option Parts → Type 0 = λ o. IfSome o (λ p. p ≡ parts_of lab w (planned b)) in
    let parts : c.in-Some.parts ≡ parts_of lab w (planned b) = subst Foreseen c.in-Some.is c.foreseen.ensures.parts in
    let map : m ≡ planned b = planned_is x b c.args._first.0 c.args._second.0 last m c.requires.search c.requires.state c.requires.planned was found in
    let cost : ◌≡◌ {A = ℕ} c.from.result (price s m) =
    c.from.ensures ∙ c.ask_parts.ensures ∙ ap (cost_of_parts number) parts ∙ sym (cost_is number lab w (planned b)) ∙ ap (price s) (sym map) in
    let le : c.args.below ≤ c.from.result = leb-true c.args.below c.from.result is in
    omega (arith, le, cost)

pub returns-in-Some-clause-plugs : goal.returns-in-Some-clause-plugs
returns-in-Some-clause-plugs g c = λ is last was plugs given.
    let x = c.args.search.now in
    let lab = x.mapper.lab.now in
    let w = x.mapper.wiring.now in
    let b = c.args.self.now.state in
    let number = c.args.rule.now.number in
    let s = sought_of c.args.search.now number in
    let Foreseen : Option Parts → Type 0 = λ o. IfSome o (λ p. p ≡ parts_of lab w (planned b)) in
    let parts : c.in-Some.parts ≡ parts_of lab w (planned b) = subst Foreseen c.in-Some.is c.foreseen.ensures.parts in
    let its = planned_plugs x b.mapping c.args._first.0 c.args._second.0 b.changes.items last c.requires.search c.requires.state.shaped c.requires.planned was in
    let same : plugs ≡ remade b.mapping.plugs b.changes.items = same_Some plugs (remade b.mapping.plugs b.changes.items) (sym given ∙ its) in
    let cost : ◌≡◌ {A = ℕ} c.from.result (price s (record { places = b.mapping.places; plugs = plugs })) =
    c.from.ensures ∙ c.ask_parts.ensures ∙ ap (cost_of_parts number) parts ∙ sym (cost_is number lab w (planned b)) ∙ ap (λ (l : List IfaceId). price s (record { places = b.mapping.places; plugs = l })) (sym same) in
    let le : c.args.below ≤ c.from.result = leb-true c.args.below c.from.result is in
    omega (arith, le, cost)

pub returns-in-None-clause-map : goal.returns-in-None-clause-map
returns-in-None-clause-map g c = λ is last was m found.
    let x = c.args.search.now.mapper in
    let s = sought_of c.args.search.now c.args.rule.now.number in
    let places = c.args.self.now.state.mapping.places in
    let same = (mapped_is x.lab.now x.free.now x.wiring.now places m found).same_places in
    let le : c.args.below ≤ c.from-in-None.result = leb-true c.args.below c.from-in-None.result is in
    let least = c.parts_at_rest.ensures.least c.args.rule.now.number m.plugs in
    subst (λ (l : List Place). c.args.below ≤ price s (record { places = l; plugs = m.plugs })) (sym same) (omega (arith, le, c.from-in-None.ensures, c.ask_parts-in-None.ensures, least))
