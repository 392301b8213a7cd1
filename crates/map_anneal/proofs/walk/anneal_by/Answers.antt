use Rattle.std.proofs.Common.{rules, ◌∙◌, ◌∷◌, [], ℕ, ap, sym, subst}
use Rattle.virt_topo.specs.declared.mapping.Mapping.{Mapping}
use Rattle.node_maps.specs.Least.{IsFirstLeast}
use Rattle.node_maps.proofs.Leasts.{least_alone}
use Rattle.map_anneal.specs.declared.priced.Priced.{Priced}
use Rattle.map_anneal.specs.Sought.{price}
use Rattle.map_anneal.specs.Searches.{sought_of}
use Rattle.map_anneal.specs.Walk.{started, cooled, walk}
use Rattle.map_anneal.proofs.walk.anneal_by.Goals as goal

pub returns-clause-least : goal.returns-clause-least
unfolding walk
returns-clause-least g c =
    let s = sought_of c.args.search.now c.args.rule.now.number in
    let start = c.args.start.now in
    let best = c.cool-cooled.new.self.best.mapping in
    let Alone : Mapping → Type 0 = λ m. IsFirstLeast (price s) (start ∷ []) m in
    let Whole : ℕ → Type 0 = λ n. IsFirstLeast (price s) (cooled s n n (started start c.args.seed)).maps best in
    let kept = c.in_ok-cooled.ensures.cooled (started start c.args.seed) (record {
      words = search rules;
      last = c.in_ok-last.ensures.start;
      best = subst Alone (sym (ap (λ (p : Priced). p.mapping) c.in_ok-priced.ensures ∙ c.in_ok-last.ensures.start)) (least_alone (price s) start);
    }) in
    let done = subst Whole (c.in_ok-last.ensures.tried.cost ∙ ap (price s) c.in_ok-last.ensures.start) kept.best in
    let Told : Priced → Type 0 = λ p. IsFirstLeast (price s) (cooled s (price s start) (price s start) (started start c.args.seed)).maps p.mapping in
    subst Told (sym c.priced_by_steps-lowest.ensures) done
