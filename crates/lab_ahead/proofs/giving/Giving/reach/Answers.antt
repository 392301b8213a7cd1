use Rattle.std.proofs.Common.{◌≡◌, Bool, true, false, List, get_or, set, sym, ap, subst, ◌∙◌}
use Rattle.lab_ahead.specs.declared.tree.Step.{Step}
use Rattle.lab_ahead.specs.SearchTrees.{AreSteps, Reached, owners_in, table_in}
use Rattle.lab_ahead.proofs.TreeLaws.{last_reached, one_more}
use Rattle.lab_ahead.proofs.giving.Giving.reach.Goals as goal

pub returns-clause-tree : goal.returns-clause-tree
returns-clause-tree c =
    let table = table_in c.args.self.now in
    let owners = owners_in c.args.self.now in
    let seen = c.args.tree.now.seen.items in
    let fresh : get_or seen c.args.step.need false ≡ false = sym (ap (λ (mark : Bool). get_or seen c.args.step.need mark) c.if-index.false) ∙ sym c.index.ensures ∙ c.if-index.false in
    subst (λ (l : List Step). AreSteps table owners l (set seen c.args.step.need true)) (sym c.in_ok-push.ensures.items)
    (one_more table owners c.args.tree.now.steps.items seen c.args.step c.requires.tree c.requires.back c.requires.owned c.requires.inside c.requires.served fresh)

pub returns-clause-reached : goal.returns-clause-reached
returns-clause-reached c =
    let table = table_in c.args.self.now in
    let owners = owners_in c.args.self.now in
    let seen = c.args.tree.now.seen.items in
    let fresh : get_or seen c.args.step.need false ≡ false = sym (ap (λ (mark : Bool). get_or seen c.args.step.need mark) c.if-index.false) ∙ sym c.index.ensures ∙ c.if-index.false in (
      c.args.step.need,
      c.requires.owned,
      subst (λ (l : List Step). Reached l c.args.step.need) (sym c.in_ok-push.ensures.items)
          (last_reached table owners c.args.tree.now.steps.items seen c.args.step c.requires.tree c.requires.back c.requires.owned c.requires.inside c.requires.served fresh),
    )
