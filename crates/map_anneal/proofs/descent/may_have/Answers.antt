use Rattle.std.proofs.Common.{◌∙◌, [], List, get_or, Contains, ap, sym, subst}
use Rattle.lab_model.specs.Shapes.{Place}
use Rattle.map_anneal.proofs.MayHave.{may_have, place_in}
use Rattle.map_anneal.proofs.descent.may_have.Goals as goal

pub passes-requires-clause-node : goal.passes-requires-clause-node
passes-requires-clause-node c = place_in c.args.search.now.mapper.lab.now c.args.place c.requires.place

pub returns : goal.returns
returns c =
    let x = c.args.search.now.mapper in
    let law = may_have x.lab.now x.free.now x.wiring.now c.args.virt c.args.place c.requires.virt c.requires.place in
    let listed = ap (λ (l : List (List Place)). get_or l c.args.virt []) c.requires.search.listed in (
      λ yes. subst (λ (l : List Place). Contains l c.args.place) (sym listed) (law.0 (sym c.passes.ensures ∙ yes)),
      λ among. c.passes.ensures ∙ law.1 (subst (λ (l : List Place). Contains l c.args.place) listed among),
    )
