use Rattle.std.proofs.Common.{◌≡◌, subst}
use Rattle.std.specs.Prelude.{IfSome}
use Rattle.cost_rule.specs.Parts.{parts_of}
use Rattle.map_anneal.proofs.Rests.{rests}
use Rattle.map_anneal.proofs.resting.rest.Goals as goal

pub costs_no_uses-requires : goal.costs_no_uses-requires
costs_no_uses-requires g c =
    let x = c.args.search.now.mapper in
    let m = c.args.state.now.mapping in
    record {
      lab = x.lab.now;
      wiring = x.wiring.now;
      mapping = m;
      kept = c.range-kept.ensures.lab;
      sound = c.requires.search.mapper.sound;
      shaped = c.requires.state.shaped;
      are = subst (λ o. IfSome o (λ p. p ≡ parts_of x.lab.now x.wiring.now m)) c.in-Some.is c.parts.ensures.parts;
    }

pub returns-clause-resting : goal.returns-clause-resting
returns-clause-resting g c = λ none. c.costs_no_uses.ensures c.if-not-costs_no_uses.false

-- where the sums rest the costs hang on no uses
pub returns-in_default-clause-ignored : goal.returns-in_default-clause-ignored
returns-in_default-clause-ignored g c = λ is. c.requires.resting (rests c.parts.result c.args.state.now.sums c.parts.ensures.told c.in_default.is)

pub returns-clause-ignored : goal.returns-clause-ignored
returns-clause-ignored g c = λ is. c.costs_no_uses.ensures c.if-not-costs_no_uses.false
