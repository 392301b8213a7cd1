use Rattle.std.proofs.Common.{◌≡◌, ◌∙◌, ◌++◌, [], ℕ, List, Bool, true, cond, Some, None, refl, sym, ap, subst}
use Rattle.std.specs.List.{cons_option}
use Rattle.std.proofs.lemmas.List.{append-nil}
use Rattle.virt_topo.specs.declared.mapping.Mapping.{Mapping}
use Rattle.lab_model.specs.Shapes.{Place}
use Rattle.map_anneal.specs.declared.priced.Priced.{Priced}
use Rattle.map_anneal.specs.Sought.{mapped, price, IsNodeMap}
use Rattle.map_anneal.specs.Searches.{sought_of, IsPriced}
use Rattle.assign_core.specs.Bests.{IsBest, is_below}
use Rattle.assign_core.proofs.Choosing.{best_bound, best_kept, best_taken}
use Rattle.assign_core.proofs.exact.weigh.Goals as goal

pub returns-then-is_no_less-clause-best : goal.returns-then-is_no_less-clause-best
returns-then-is_no_less-clause-best g c = λ maps h.
    let s = sought_of c.args.search.now c.args.rule.now.number in
    let places = c.args.chosen.now.state.mapping.places in
    best_bound s maps c.args.best places (mapped s places) h c.requires.chosen.state.choice (c.is_no_less.ensures c.if-is_no_less.true) refl

pub cost_of-requires-clause-resting : goal.cost_of-requires-clause-resting
cost_of-requires-clause-resting g c = λ none. c.requires.resting (c.in_ok-is_map.ensures.rest none)

pub returns-then-not-branch-clause-best : goal.returns-then-not-branch-clause-best
returns-then-not-branch-clause-best g c = λ maps h.
    let s = sought_of c.args.search.now c.args.rule.now.number in
    let places = c.args.chosen.now.state.mapping.places in
    let m = c.is_map.new.self.state.mapping in
    let none : mapped s places ≡ None = c.in_ok-is_map.ensures.map ∙ ap (λ (b : Bool). cond b (Some m) None) c.if-not-branch.true in
    let same : maps ++ cons_option (mapped s places) [] ≡ maps = ap (λ o. maps ++ cons_option o []) none ∙ append-nil maps in
    subst (λ xs. IsBest s xs c.args.best) (sym same) h

pub returns-then-not-is_below-clause-best : goal.returns-then-not-is_below-clause-best
returns-then-not-is_below-clause-best g c = λ maps h.
    let s = sought_of c.args.search.now c.args.rule.now.number in
    let places = c.args.chosen.now.state.mapping.places in
    let m = c.is_map.new.self.state.mapping in
    let some : mapped s places ≡ Some m = c.in_ok-is_map.ensures.map ∙ ap (λ (b : Bool). cond b (Some m) None) c.if-not-branch.false in
    let p : Priced = record { mapping = m; cost = c.cost_of.result } in
    let is : IsPriced s p = record {
      node_map = record { choice = c.in_ok-is_map.ensures.chosen.state.choice; feasible = ap (λ (l : List Place). mapped s l) c.in_ok-is_map.ensures.places ∙ some };
      cost = c.cost_of.ensures;
    } in
    subst (λ xs. IsBest s xs c.args.best) (sym (ap (λ o. maps ++ cons_option o []) some)) (best_kept s maps c.args.best p h is (sym c.is_below.ensures ∙ c.if-not-is_below.true))

pub returns-clause-priced : goal.returns-clause-priced
returns-clause-priced g c =
    let s = sought_of c.args.search.now c.args.rule.now.number in
    let places = c.args.chosen.now.state.mapping.places in
    let m = c.is_map.new.self.state.mapping in
    let some : mapped s places ≡ Some m = c.in_ok-is_map.ensures.map ∙ ap (λ (b : Bool). cond b (Some m) None) c.if-not-branch.false in
    let copy : c.in_ok-mapping.mapping ≡ m = c.in_ok-mapping.ensures in
    let node_map : IsNodeMap s m = record { choice = c.in_ok-is_map.ensures.chosen.state.choice; feasible = ap (λ (l : List Place). mapped s l) c.in_ok-is_map.ensures.places ∙ some } in
    record {
      node_map = subst (λ (x : Mapping). IsNodeMap s x) (sym copy) node_map;
      cost = c.taken_cost-cost.ensures ∙ ap (price s) (sym copy);
    }

pub returns-clause-best : goal.returns-clause-best
returns-clause-best g c = λ maps h.
    let s = sought_of c.args.search.now c.args.rule.now.number in
    let places = c.args.chosen.now.state.mapping.places in
    let m = c.is_map.new.self.state.mapping in
    let some : mapped s places ≡ Some m = c.in_ok-is_map.ensures.map ∙ ap (λ (b : Bool). cond b (Some m) None) c.if-not-branch.false in
    let copy : c.in_ok-mapping.mapping ≡ m = c.in_ok-mapping.ensures in
    let p : Priced = record { mapping = c.in_ok-mapping.mapping; cost = c.taken_cost-cost.result } in
    let node_map : IsNodeMap s m = record { choice = c.in_ok-is_map.ensures.chosen.state.choice; feasible = ap (λ (l : List Place). mapped s l) c.in_ok-is_map.ensures.places ∙ some } in
    let is : IsPriced s p = record {
      node_map = subst (λ (x : Mapping). IsNodeMap s x) (sym copy) node_map;
      cost = c.taken_cost-cost.ensures ∙ ap (price s) (sym copy);
    } in
    let below : is_below p.cost c.args.best ≡ true = ap (λ (n : ℕ). is_below n c.args.best) (c.taken_cost-cost.ensures ∙ sym c.cost_of.ensures) ∙ sym c.is_below.ensures ∙ c.if-not-is_below.false in
    subst (λ xs. IsBest s xs (Some p)) (sym (ap (λ o. maps ++ cons_option o []) (some ∙ ap Some (sym copy)))) (best_taken s maps c.args.best p h is below)
