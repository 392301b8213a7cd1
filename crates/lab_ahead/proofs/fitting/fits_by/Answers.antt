use Rattle.std.proofs.Common.{◌<◌, ℕ, Bool, List, Option, MatchOption, length, get_or, sym, ap, subst, ◌∙◌}
use Rattle.lab_ahead.specs.declared.tree.Step.{Step}
use Rattle.lab_ahead.specs.declared.tree.SearchTree.{SearchTree}
use Rattle.lab_ahead.specs.SearchTrees.{AreMet, IsWanting, Reached, given_of, owners_in, table_in}
use Rattle.lab_ahead.proofs.Exchanges.{table_still}
use Rattle.lab_ahead.proofs.Halls.{never_fits}
use Rattle.lab_ahead.proofs.Shown.{fresh_whole, shows_giving, shows_short, steps_within}
use Rattle.lab_ahead.proofs.fitting.fits_by.Goals as goal

pub serve_all-requires-clause-whole : goal.serve_all-requires-clause-whole
serve_all-requires-clause-whole c = fresh_whole _ _ _ c.in_ok-giving.giving c.requires.table c.in_ok-giving.ensures.rows c.in_ok-giving.ensures.owners

pub returns-in-None-clause-shows : goal.returns-in-None-clause-shows
returns-in-None-clause-shows c lab is =
    let needs = c.args.needs.now in
    let last = c.serve_all.new.self in
    let now = c.in_ok-serve_all.ensures in
    let met : AreMet needs (length needs) (owners_in last) =
    subst (λ (o : Option SearchTree). MatchOption o (AreMet needs (length needs) (owners_in last)) (IsWanting needs (table_in last) (owners_in last))) c.in-None.is now.answer in
    shows_giving lab c.args.left.now needs c.in_ok-giving.giving last (c.in_ok-giving.ensures.rows ∙ is) c.in_ok-giving.ensures.owners now.nodes now.whole c.requires.differ met c.in_ok-given_of-in-None.field-0
    (c.in_ok-given_of-in-None.ensures ∙ ap (λ (o : List (Option ℕ)). given_of c.args.left.now o) c.deref.ensures.value)

pub returns-in-None-clause-exact : goal.returns-in-None-clause-exact
returns-in-None-clause-exact c lab is =
    let needs = c.args.needs.now in
    let last = c.serve_all.new.self in
    let now = c.in_ok-serve_all.ensures in
    let met : AreMet needs (length needs) (owners_in last) =
    subst (λ (o : Option SearchTree). MatchOption o (AreMet needs (length needs) (owners_in last)) (IsWanting needs (table_in last) (owners_in last))) c.in-None.is now.answer in (
      λ _. (
        c.in_ok-given_of-in-None.field-0,
        shows_giving lab c.args.left.now needs c.in_ok-giving.giving last (c.in_ok-giving.ensures.rows ∙ is) c.in_ok-giving.ensures.owners now.nodes now.whole c.requires.differ met c.in_ok-given_of-in-None.field-0
            (c.in_ok-given_of-in-None.ensures ∙ ap (λ (o : List (Option ℕ)). given_of c.args.left.now o) c.deref.ensures.value),
      ),
      λ _. tt,
    )

pub kinds_reached-requires : goal.kinds_reached-requires
kinds_reached-requires c =
    let needs = c.args.needs.now in
    let last = c.serve_all.new.self in
    let now = c.in_ok-serve_all.ensures in
    let wanting : IsWanting needs (table_in last) (owners_in last) c.in-Some.tree =
    subst (λ (o : Option SearchTree). MatchOption o (AreMet needs (length needs) (owners_in last)) (IsWanting needs (table_in last) (owners_in last))) c.in-Some.is now.answer in
    subst (λ (l : List Step). (k : ℕ) (d : Step) → k < length l → (get_or l k d).need < length needs) (sym c.deref-in-Some.ensures.value)
    (steps_within needs last (ap (λ (t : List (List Bool)). length t) (table_still c.in_ok-giving.giving last now.nodes ∙ c.in_ok-giving.ensures.rows) ∙ c.requires.table.many) c.in-Some.tree wanting)

pub returns-clause-shows : goal.returns-clause-shows
returns-clause-shows c lab is =
    let needs = c.args.needs.now in
    let last = c.serve_all.new.self in
    let now = c.in_ok-serve_all.ensures in
    let found = c.in_ok-kinds_reached-in-Some.ensures in
    let steps = c.deref-in-Some.ensures.value in
    let wanting : IsWanting needs (table_in last) (owners_in last) c.in-Some.tree =
    subst (λ (o : Option SearchTree). MatchOption o (AreMet needs (length needs) (owners_in last)) (IsWanting needs (table_in last) (owners_in last))) c.in-Some.is now.answer in
    shows_short lab c.args.left.now needs c.in_ok-giving.giving last (c.in_ok-giving.ensures.rows ∙ is) c.in_ok-giving.ensures.owners now.nodes now.whole c.in-Some.tree wanting
    c.in_ok-kinds_reached-in-Some.field-0 found.rising (λ n reached. found.all n (subst (λ (l : List Step). Reached l n) (sym steps) reached))
    (λ kind has. let from = found.only kind has in (from.0, subst (λ (l : List Step). Reached l from.0) steps from.1, from.2))

pub returns-clause-exact : goal.returns-clause-exact
returns-clause-exact c lab is =
    let needs = c.args.needs.now in
    let last = c.serve_all.new.self in
    let now = c.in_ok-serve_all.ensures in
    let found = c.in_ok-kinds_reached-in-Some.ensures in
    let steps = c.deref-in-Some.ensures.value in
    let wanting : IsWanting needs (table_in last) (owners_in last) c.in-Some.tree =
    subst (λ (o : Option SearchTree). MatchOption o (AreMet needs (length needs) (owners_in last)) (IsWanting needs (table_in last) (owners_in last))) c.in-Some.is now.answer in
    let short =
    shows_short lab c.args.left.now needs c.in_ok-giving.giving last (c.in_ok-giving.ensures.rows ∙ is) c.in_ok-giving.ensures.owners now.nodes now.whole c.in-Some.tree wanting
    c.in_ok-kinds_reached-in-Some.field-0 found.rising (λ n reached. found.all n (subst (λ (l : List Step). Reached l n) (sym steps) reached))
    (λ kind has. let from = found.only kind has in (from.0, subst (λ (l : List Step). Reached l from.0) steps from.1, from.2)) in
    (λ none. absurd none, never_fits lab c.args.left.now needs c.in_ok-kinds_reached-in-Some.field-0 short)
