use Rattle.std.proofs.Common.{◌≡◌, ◌∙◌, ap, refl, subst, sym}
use Rattle.std.specs.Prelude.{IfSome}
use Rattle.cost_rule.specs.Parts.{parts_of, cost_of_parts}
use Rattle.cost_rule.proofs.PartLaws.{cost_is}
use Rattle.map_anneal.proofs.Rests.{rests}
use Rattle.map_anneal.proofs.moves.cost_of.Goals as goal

pub returns-in-Some : goal.returns-in-Some
returns-in-Some g c =
    let x = c.args.search.now.mapper in
    let number = c.args.rule.now.number in
    let m = c.args.state.now.mapping in
    let parts = subst (λ o. IfSome o (λ p. p ≡ parts_of x.lab.now x.wiring.now m)) c.in-Some.is c.parts.ensures.parts in
    c.ask_parts.ensures ∙ ap (cost_of_parts number) parts ∙ sym (cost_is number x.lab.now x.wiring.now m)

-- where the sums rest the costs hang on no uses
pub returns-in-None : goal.returns-in-None
returns-in-None g c =
    let x = c.args.search.now.mapper in
    let number = c.args.rule.now.number in
    let m = c.args.state.now.mapping in
    let hangs = c.requires.resting (rests c.parts.result c.args.state.now.sums c.parts.ensures.told c.in-None.is) in
    c.ask_parts-in-None.ensures ∙ ap (cost_of_parts number) c.parts_at_rest.ensures.parts ∙ hangs _ (parts_of x.lab.now x.wiring.now m) refl refl ∙ sym (cost_is number x.lab.now x.wiring.now m)
