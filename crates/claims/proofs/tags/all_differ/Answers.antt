use Rattle.std.proofs.Common.{◌≡◌, ◌∷◌, sym, ◌∙◌, rules}
use Rattle.claims.proofs.FreeIds.{twice, differ_rest}
use Rattle.claims.proofs.tags.all_differ.Goals as goal

pub returns-then-contains : goal.returns-then-contains
returns-then-contains c =
    let is : c.loop-first.rest.now ≡ c.in-Some.first.now ∷ c.in-Some.others.now = search rules in
    sym (c.loop-first.invariant ∙ twice _ _ _ is (sym c.contains.ensures.value ∙ c.if-contains.true))

pub loop-first-preserved : goal.loop-first-preserved
loop-first-preserved c =
    let is : c.loop-first.rest.now ≡ c.in-Some.first.now ∷ c.in-Some.others.now = search rules in
    c.loop-first.invariant ∙ differ_rest _ _ _ is (sym c.contains.ensures.value ∙ c.if-contains.false)
