use Rattle.std.proofs.Common.{◌≡◌, ◌∙◌, ◌∷◌, [], List, length, take, drop, Option, refl, sym, ap, subst}
use Rattle.std.specs.Prelude.{is_some}
use Rattle.std.proofs.lemmas.Bool.{false≢true}
use Rattle.lab_model.specs.Shapes.{Place}
use Rattle.map_anneal.specs.declared.priced.Priced.{Priced}
use Rattle.map_anneal.specs.Sought.{Sought, choices}
use Rattle.map_anneal.specs.Searches.{sought_of}
use Rattle.assign_core.specs.Bests.{IsBest}
use Rattle.assign_core.specs.Exact.{node_maps}
use Rattle.assign_core.proofs.Choosing.{found}
use Rattle.assign_core.proofs.exact.best_by.Goals as goal

-- maps that begin with no places are all maps
from_none : (s : Sought) (o : Option Priced) (places : List Place) → places ≡ [] → IsBest s (found s (places ∷ []) (drop (length places) (choices s))) o → IsBest s (node_maps s) o
unfolding node_maps
from_none s o places none h = subst (λ (l : List Place). IsBest s (found s (l ∷ []) (drop (length l) (choices s))) o) none h

pub returns-in-Some-found-clause-cheapest : goal.returns-in-Some-found-clause-cheapest
unfolding node_maps
returns-in-Some-found-clause-cheapest g c =
    let s = sought_of c.args.search.now c.args.rule.now.number in
    let P : Option Priced → Type 0 = λ best. IsBest s (node_maps s) best in
    let best = subst P c.in-Some-found.is (from_none s _ _ c.in_ok-prefix.ensures.none (c.in_ok-found.ensures.best [] refl)) in
    (best.least, best.priced.cost)

pub returns-in-Some-found-clause-node_map : goal.returns-in-Some-found-clause-node_map
unfolding node_maps
returns-in-Some-found-clause-node_map g c =
    let s = sought_of c.args.search.now c.args.rule.now.number in
    let P : Option Priced → Type 0 = λ best. IsBest s (node_maps s) best in
    let best = subst P c.in-Some-found.is (from_none s _ _ c.in_ok-prefix.ensures.none (c.in_ok-found.ensures.best [] refl)) in
    best.priced.node_map

pub returns-clause-cheapest : goal.returns-clause-cheapest
unfolding node_maps
returns-clause-cheapest g c =
    let s = sought_of c.args.search.now c.args.rule.now.number in
    let P : Option Priced → Type 0 = λ best. IsBest s (node_maps s) best in
    subst P c.in-None.is (from_none s _ _ c.in_ok-prefix.ensures.none (c.in_ok-found.ensures.best [] refl))

-- the sums are made, and don't rest
pub explore-explored-requires-clause-resting : goal.explore-explored-requires-clause-resting
explore-explored-requires-clause-resting g c = λ none. absurd (false≢true (sym (ap is_some none) ∙ c.in_ok-chosen.ensures.summed))

pub explore-explored-requires-clause-begun : goal.explore-explored-requires-clause-begun
explore-explored-requires-clause-begun g c = subst (λ (l : List Place). take (length l) c.in_ok-chosen.chosen.state.mapping.places ≡ l) (sym c.in_ok-prefix.ensures.none) refl
