use Rattle.std.proofs.Common.{◌≡◌, ◌≤◌, ◌∙◌, ℕ, List, Option, Some, None, ap, sym, subst, arith, Bool, cond, refl}
use Rattle.std.specs.Prelude.{IsTrue, ◌↔◌}
use Rattle.std.proofs.lemmas.Option.{none-some, same_Some}
use Rattle.virt_topo.specs.declared.mapping.Mapping.{Mapping}
use Rattle.node_maps.specs.NodeMaps.{node_map, plugs_of}
use Rattle.node_maps.specs.Moved.{KeepsPlaces}
use Rattle.node_maps.proofs.Assembled.{parts_of_map}
use Rattle.lab_model.specs.Shapes.{Place}
use Rattle.node_maps.proofs.MapLaws.{mapped_is}
use Rattle.node_maps.proofs.MovedLaws.{no_plugs}
use Rattle.map_state.specs.States.{Was}
use Rattle.map_anneal.specs.Sought.{price}
use Rattle.map_anneal.specs.Searches.{sought_of}
use Rattle.map_anneal.specs.RuledOut.{IsNoLess}
use Rattle.map_anneal.proofs.TriedMoves.{never_kept, served_is, commit_no_less}
use Rattle.std.proofs.lemmas.Bool.{false≢true}
use Rattle.map_anneal.proofs.tried.Tried.commit_if_cheaper.Goals as goal

never : (m : Mapping) → ◌≡◌ {A = Option Mapping} None (Some m) → ⊥
never m e = absurd (cc e)

pub returns-then-not-branch-clause-over : goal.returns-then-not-branch-clause-over
returns-then-not-branch-clause-over g c = λ is last was m found.
    let x = c.args.search.now.mapper in
    let places = c.args.self.now.state.mapping.places in
    let none = c.in_ok-plan.ensures.none c.if-not-branch.true in
    let no_map = no_plugs x.lab.now x.free.now x.wiring.now places (ap (λ (y : Mapping). plugs_of x.lab.now x.wiring.now y.places) (sym c.plan.ensures.mapping) ∙ none) in
    absurd (never m (no_map ∙ found))

pub returns-then-not-branch-clause-ruled_out : goal.returns-then-not-branch-clause-ruled_out
returns-then-not-branch-clause-ruled_out g c = λ is yes last was plugs kept.
    let x = c.args.search.now.mapper in
    let none = c.in_ok-plan.ensures.none c.if-not-branch.true in
    absurd (none-some plugs (sym (ap (λ (y : Mapping). plugs_of x.lab.now x.wiring.now y.places) (sym c.plan.ensures.mapping) ∙ none) ∙ kept.given))

pub returns-then-not-branch-2-clause-over : goal.returns-then-not-branch-2-clause-over
returns-then-not-branch-2-clause-over g c = λ is last was m found.
    let x = c.args.search.now.mapper in
    let places = c.args.self.now.state.mapping.places in
    let a = c.args.first.0.0 in
    let b = c.args.second.0.0 in
    let stays = c.in_ok-may_stay.field-0 in
    let test = subst (λ (y : Mapping). IsTrue stays ↔ KeepsPlaces x.lab.now x.wiring.now y.places a b) c.plan.ensures.mapping c.in_ok-may_stay.ensures in
    let all = parts_of_map x.lab.now x.free.now x.wiring.now places m found in
    absurd (never_kept x.lab.now x.wiring.now places a b stays test c.if-not-branch-2.true c.requires.first c.requires.second all.shared all.typed)

pub returns-then-not-branch-2-clause-ruled_out : goal.returns-then-not-branch-2-clause-ruled_out
returns-then-not-branch-2-clause-ruled_out g c = λ is yes last was plugs kept.
    let x = c.args.search.now.mapper in
    let places = c.args.self.now.state.mapping.places in
    let a = c.args.first.0.0 in
    let b = c.args.second.0.0 in
    let stays = c.in_ok-may_stay.field-0 in
    let test = subst (λ (y : Mapping). IsTrue stays ↔ KeepsPlaces x.lab.now x.wiring.now y.places a b) c.plan.ensures.mapping c.in_ok-may_stay.ensures in
    absurd (never_kept x.lab.now x.wiring.now places a b stays test c.if-not-branch-2.true c.requires.first c.requires.second kept.shared kept.typed)

pub returns-then-from-below-clause-ruled_out : goal.returns-then-from-below-clause-ruled_out
returns-then-from-below-clause-ruled_out g c = λ is yes last was.
    let x = c.args.search.now in
    let s = sought_of c.args.search.now c.args.rule.now.number in
    let old = c.plan.new.self.mapping in
    let new = c.commit.new.self.mapping in
    let before = subst (λ (y : Mapping). Was x y.places y.plugs c.args.first.0.0 c.args.second.0.0 last) (sym c.plan.ensures.mapping) was in
    let map = served_is c.in_ok-commit.field-0 (node_map x.mapper.lab.now x.mapper.free.now x.mapper.wiring.now old.places) new c.if-not-branch-3.false (c.in_ok-commit.ensures.map last before) in
    let wide = c.from.ensures in
    let cost : ◌≡◌ {A = ℕ} c.cost_of-cost.result (price s new) = c.cost_of-cost.ensures in
    let le : c.args.below ≤ c.from.result = c.if-from-below.true in
    subst (λ (y : Mapping). IsNoLess s c.args.below y.places) c.plan.ensures.mapping (commit_no_less s c.args.below old.places new map (omega (arith, le, wide, cost)))

pub returns-then-is_overfull-clause-map : goal.returns-then-is_overfull-clause-map
returns-then-is_overfull-clause-map g c = λ is. absurd (false≢true is)

pub returns-then-is_overfull-clause-cost : goal.returns-then-is_overfull-clause-cost
returns-then-is_overfull-clause-cost g c = λ is. absurd (false≢true is)

pub returns-then-is_overfull-clause-below : goal.returns-then-is_overfull-clause-below
returns-then-is_overfull-clause-below g c = λ is. absurd (false≢true is)

pub returns-then-is_overfull-clause-same_cost : goal.returns-then-is_overfull-clause-same_cost
returns-then-is_overfull-clause-same_cost g c = λ is. refl

pub returns-then-is_overfull-clause-state : goal.returns-then-is_overfull-clause-state
returns-then-is_overfull-clause-state g c = c.requires.state

pub returns-then-is_overfull-clause-none : goal.returns-then-is_overfull-clause-none
returns-then-is_overfull-clause-none g c = c.requires.none

pub returns-then-is_overfull-clause-places : goal.returns-then-is_overfull-clause-places
returns-then-is_overfull-clause-places g c = refl

pub returns-then-is_overfull-clause-plugs : goal.returns-then-is_overfull-clause-plugs
returns-then-is_overfull-clause-plugs g c = λ is. refl

pub returns-then-is_overfull-clause-over : goal.returns-then-is_overfull-clause-over
returns-then-is_overfull-clause-over g c = λ is last was m found. absurd (never m (sym (c.is_overfull.ensures.none c.if-is_overfull.true) ∙ found))

pub returns-then-is_overfull-clause-ruled_out : goal.returns-then-is_overfull-clause-ruled_out
returns-then-is_overfull-clause-ruled_out g c = λ is yes last was. absurd (false≢true yes)

pub returns-then-not-branch-clause-map : goal.returns-then-not-branch-clause-map
returns-then-not-branch-clause-map g c = λ is. absurd (false≢true is)

pub returns-then-not-branch-clause-cost : goal.returns-then-not-branch-clause-cost
returns-then-not-branch-clause-cost g c = λ is. absurd (false≢true is)

pub returns-then-not-branch-clause-below : goal.returns-then-not-branch-clause-below
returns-then-not-branch-clause-below g c = λ is. absurd (false≢true is)

pub returns-then-not-branch-clause-same_cost : goal.returns-then-not-branch-clause-same_cost
returns-then-not-branch-clause-same_cost g c = λ is. refl

pub returns-then-not-branch-clause-state : goal.returns-then-not-branch-clause-state
returns-then-not-branch-clause-state g c = c.in_ok-plan.ensures.state

pub returns-then-not-branch-clause-none : goal.returns-then-not-branch-clause-none
returns-then-not-branch-clause-none g c = c.plan.ensures.back ∙ c.requires.none

pub returns-then-not-branch-clause-places : goal.returns-then-not-branch-clause-places
returns-then-not-branch-clause-places g c = ap (λ (y : Mapping). y.places) c.plan.ensures.mapping

pub returns-then-not-branch-clause-plugs : goal.returns-then-not-branch-clause-plugs
returns-then-not-branch-clause-plugs g c = λ is. ap (λ (y : Mapping). y.plugs) c.plan.ensures.mapping

pub returns-then-is_over-clause-map : goal.returns-then-is_over-clause-map
returns-then-is_over-clause-map g c = λ is. absurd (false≢true is)

pub returns-then-is_over-clause-cost : goal.returns-then-is_over-clause-cost
returns-then-is_over-clause-cost g c = λ is. absurd (false≢true is)

pub returns-then-is_over-clause-below : goal.returns-then-is_over-clause-below
returns-then-is_over-clause-below g c = λ is. absurd (false≢true is)

pub returns-then-is_over-clause-same_cost : goal.returns-then-is_over-clause-same_cost
returns-then-is_over-clause-same_cost g c = λ is. refl

pub returns-then-is_over-clause-state : goal.returns-then-is_over-clause-state
returns-then-is_over-clause-state g c = c.in_ok-plan.ensures.state

pub returns-then-is_over-clause-none : goal.returns-then-is_over-clause-none
returns-then-is_over-clause-none g c = c.plan.ensures.back ∙ c.requires.none

pub returns-then-is_over-clause-places : goal.returns-then-is_over-clause-places
returns-then-is_over-clause-places g c = ap (λ (y : Mapping). y.places) c.plan.ensures.mapping

pub returns-then-is_over-clause-plugs : goal.returns-then-is_over-clause-plugs
returns-then-is_over-clause-plugs g c = λ is. ap (λ (y : Mapping). y.plugs) c.plan.ensures.mapping

pub returns-then-not-branch-2-clause-map : goal.returns-then-not-branch-2-clause-map
returns-then-not-branch-2-clause-map g c = λ is. absurd (false≢true is)

pub returns-then-not-branch-2-clause-cost : goal.returns-then-not-branch-2-clause-cost
returns-then-not-branch-2-clause-cost g c = λ is. absurd (false≢true is)

pub returns-then-not-branch-2-clause-below : goal.returns-then-not-branch-2-clause-below
returns-then-not-branch-2-clause-below g c = λ is. absurd (false≢true is)

pub returns-then-not-branch-2-clause-same_cost : goal.returns-then-not-branch-2-clause-same_cost
returns-then-not-branch-2-clause-same_cost g c = λ is. refl

pub returns-then-not-branch-2-clause-state : goal.returns-then-not-branch-2-clause-state
returns-then-not-branch-2-clause-state g c = c.in_ok-plan.ensures.state

pub returns-then-not-branch-2-clause-none : goal.returns-then-not-branch-2-clause-none
returns-then-not-branch-2-clause-none g c = c.plan.ensures.back ∙ c.requires.none

pub returns-then-not-branch-2-clause-places : goal.returns-then-not-branch-2-clause-places
returns-then-not-branch-2-clause-places g c = ap (λ (y : Mapping). y.places) c.plan.ensures.mapping

pub returns-then-not-branch-2-clause-plugs : goal.returns-then-not-branch-2-clause-plugs
returns-then-not-branch-2-clause-plugs g c = λ is. ap (λ (y : Mapping). y.plugs) c.plan.ensures.mapping

pub is_over-requires-clause-state : goal.is_over-requires-clause-state
is_over-requires-clause-state g c = c.in_ok-plan.ensures.state

pub is_over-requires-clause-planned : goal.is_over-requires-clause-planned
is_over-requires-clause-planned g c = c.in_ok-plan.ensures.planned c.if-not-branch.false

pub may_stay-requires-clause-state : goal.may_stay-requires-clause-state
may_stay-requires-clause-state g c = c.in_ok-plan.ensures.state

pub commit-requires-clause-state : goal.commit-requires-clause-state
commit-requires-clause-state g c = c.in_ok-plan.ensures.state

pub commit-requires-clause-planned : goal.commit-requires-clause-planned
commit-requires-clause-planned g c = c.in_ok-plan.ensures.planned c.if-not-branch.false

pub commit-requires-clause-stays : goal.commit-requires-clause-stays
commit-requires-clause-stays g c = c.in_ok-may_stay.ensures.0 c.if-not-branch-2.false

pub commit-requires-clause-none : goal.commit-requires-clause-none
commit-requires-clause-none g c = c.plan.ensures.back ∙ c.requires.none

pub undo-requires-clause-state : goal.undo-requires-clause-state
undo-requires-clause-state g c = c.in_ok-commit.ensures.state

pub undo-requires-clause-backward : goal.undo-requires-clause-backward
undo-requires-clause-backward g c = c.in_ok-commit.ensures.backward

pub undo-requires-then-from-below-clause-state : goal.undo-requires-then-from-below-clause-state
undo-requires-then-from-below-clause-state g c = c.in_ok-commit.ensures.state

pub undo-requires-then-from-below-clause-backward : goal.undo-requires-then-from-below-clause-backward
undo-requires-then-from-below-clause-backward g c = c.in_ok-commit.ensures.backward

pub returns-then-not-branch-3-clause-map : goal.returns-then-not-branch-3-clause-map
returns-then-not-branch-3-clause-map g c = λ is. absurd (false≢true is)

pub returns-then-not-branch-3-clause-cost : goal.returns-then-not-branch-3-clause-cost
returns-then-not-branch-3-clause-cost g c = λ is. absurd (false≢true is)

pub returns-then-not-branch-3-clause-below : goal.returns-then-not-branch-3-clause-below
returns-then-not-branch-3-clause-below g c = λ is. absurd (false≢true is)

pub returns-then-not-branch-3-clause-same_cost : goal.returns-then-not-branch-3-clause-same_cost
returns-then-not-branch-3-clause-same_cost g c = λ is. refl

pub returns-then-not-branch-3-clause-state : goal.returns-then-not-branch-3-clause-state
returns-then-not-branch-3-clause-state g c = c.undo.ensures.state

pub returns-then-not-branch-3-clause-none : goal.returns-then-not-branch-3-clause-none
returns-then-not-branch-3-clause-none g c = c.undo.ensures.none

pub returns-then-not-branch-3-clause-places : goal.returns-then-not-branch-3-clause-places
returns-then-not-branch-3-clause-places g c = c.undo.ensures.places ∙ c.in_ok-commit.ensures.places ∙ ap (λ (y : Mapping). y.places) c.plan.ensures.mapping

pub returns-then-not-branch-3-clause-plugs : goal.returns-then-not-branch-3-clause-plugs
returns-then-not-branch-3-clause-plugs g c = λ is. c.undo.ensures.plugs ∙ c.in_ok-commit.ensures.back ∙ ap (λ (y : Mapping). y.plugs) c.plan.ensures.mapping

pub returns-then-from-below-clause-map : goal.returns-then-from-below-clause-map
returns-then-from-below-clause-map g c = λ is. absurd (false≢true is)

pub returns-then-from-below-clause-cost : goal.returns-then-from-below-clause-cost
returns-then-from-below-clause-cost g c = λ is. absurd (false≢true is)

pub returns-then-from-below-clause-below : goal.returns-then-from-below-clause-below
returns-then-from-below-clause-below g c = λ is. absurd (false≢true is)

pub returns-then-from-below-clause-same_cost : goal.returns-then-from-below-clause-same_cost
returns-then-from-below-clause-same_cost g c = λ is. refl

pub returns-then-from-below-clause-state : goal.returns-then-from-below-clause-state
returns-then-from-below-clause-state g c = c.undo-then-from-below.ensures.state

pub returns-then-from-below-clause-none : goal.returns-then-from-below-clause-none
returns-then-from-below-clause-none g c = c.undo-then-from-below.ensures.none

pub returns-then-from-below-clause-places : goal.returns-then-from-below-clause-places
returns-then-from-below-clause-places g c = c.undo-then-from-below.ensures.places ∙ c.in_ok-commit.ensures.places ∙ ap (λ (y : Mapping). y.places) c.plan.ensures.mapping

pub returns-then-from-below-clause-plugs : goal.returns-then-from-below-clause-plugs
returns-then-from-below-clause-plugs g c = λ is. c.undo-then-from-below.ensures.plugs ∙ c.in_ok-commit.ensures.back ∙ ap (λ (y : Mapping). y.plugs) c.plan.ensures.mapping

pub returns-then-not-branch-3-clause-ruled_out : goal.returns-then-not-branch-3-clause-ruled_out
returns-then-not-branch-3-clause-ruled_out g c = λ is yes last was. absurd (false≢true yes)

pub returns-then-not-branch-3-clause-over : goal.returns-then-not-branch-3-clause-over
returns-then-not-branch-3-clause-over g c = λ is last was m found.
    let x = c.args.search.now in
    let before = subst (λ (y : Mapping). Was x y.places y.plugs c.args.first.0.0 c.args.second.0.0 last) (sym c.plan.ensures.mapping) was in
    let none = c.in_ok-commit.ensures.map last before ∙ ap (λ (b : Bool). cond b (Some c.commit.new.self.mapping) None) c.if-not-branch-3.true in
    absurd (never m (sym none ∙ ap (λ (y : Mapping). node_map x.mapper.lab.now x.mapper.free.now x.mapper.wiring.now y.places) c.plan.ensures.mapping ∙ found))

pub returns-then-is_over-clause-over : goal.returns-then-is_over-clause-over
returns-then-is_over-clause-over g c = λ is last was m found.
    let x = c.args.search.now in
    let before = subst (λ (y : Mapping). Was x y.places y.plugs c.args.first.0.0 c.args.second.0.0 last) (sym c.plan.ensures.mapping) was in
    c.is_over.ensures.map c.if-is_over.true last before m (ap (λ (y : Mapping). node_map x.mapper.lab.now x.mapper.free.now x.mapper.wiring.now y.places) c.plan.ensures.mapping ∙ found)

pub returns-then-from-below-clause-over : goal.returns-then-from-below-clause-over
returns-then-from-below-clause-over g c = λ is last was m found.
    let x = c.args.search.now in
    let before = subst (λ (y : Mapping). Was x y.places y.plugs c.args.first.0.0 c.args.second.0.0 last) (sym c.plan.ensures.mapping) was in
    let new = c.commit.new.self.mapping in
    let some : node_map x.mapper.lab.now x.mapper.free.now x.mapper.wiring.now c.plan.new.self.mapping.places ≡ Some new = c.in_ok-commit.ensures.map last before ∙ ap (λ (b : Bool). cond b (Some new) None) c.if-not-branch-3.false in
    let same = same_Some new m (sym some ∙ ap (λ (y : Mapping). node_map x.mapper.lab.now x.mapper.free.now x.mapper.wiring.now y.places) c.plan.ensures.mapping ∙ found) in
    let cost : ◌≡◌ {A = ℕ} c.cost_of-cost.result (price (sought_of c.args.search.now c.args.rule.now.number) m) = c.cost_of-cost.ensures ∙ ap (price (sought_of c.args.search.now c.args.rule.now.number)) same in
    omega (arith, c.if-from-below.true, c.from.ensures, cost)

pub returns-clause-plugs : goal.returns-clause-plugs
returns-clause-plugs g c = λ is. absurd (false≢true (sym is))

pub returns-clause-same_cost : goal.returns-clause-same_cost
returns-clause-same_cost g c = λ is. absurd (false≢true (sym is))

pub returns-clause-over : goal.returns-clause-over
returns-clause-over g c = λ is last was m found. absurd (false≢true (sym is))

pub returns-clause-ruled_out : goal.returns-clause-ruled_out
returns-clause-ruled_out g c = λ is yes last was. absurd (false≢true (sym is))

pub returns-clause-none : goal.returns-clause-none
returns-clause-none g c = c.forget.ensures.none

pub returns-clause-places : goal.returns-clause-places
returns-clause-places g c = ap (λ (y : Mapping). y.places) c.forget.ensures.mapping ∙ c.in_ok-commit.ensures.places ∙ ap (λ (y : Mapping). y.places) c.plan.ensures.mapping

pub returns-clause-cost : goal.returns-clause-cost
returns-clause-cost g c = λ is. c.cost_of-cost.ensures ∙ ap (price (sought_of c.args.search.now c.args.rule.now.number)) (sym c.forget.ensures.mapping)

pub returns-clause-below : goal.returns-clause-below
returns-clause-below g c = λ is. omega (arith, c.if-from-below.false, c.from.ensures)

pub returns-clause-map : goal.returns-clause-map
returns-clause-map g c = λ is last was.
    let x = c.args.search.now in
    let before = subst (λ (y : Mapping). Was x y.places y.plugs c.args.first.0.0 c.args.second.0.0 last) (sym c.plan.ensures.mapping) was in
    ap (λ (y : Mapping). node_map x.mapper.lab.now x.mapper.free.now x.mapper.wiring.now y.places) (sym c.plan.ensures.mapping) ∙ c.in_ok-commit.ensures.map last before
    ∙ ap (λ (b : Bool). cond b (Some c.commit.new.self.mapping) None) c.if-not-branch-3.false ∙ ap Some (sym c.forget.ensures.mapping)

pub cost_of-cost-requires-clause-resting : goal.cost_of-cost-requires-clause-resting
cost_of-cost-requires-clause-resting g c = λ none. c.requires.resting (sym c.plan.ensures.sums ∙ c.in_ok-commit.ensures.rest none)

pub returns-then-is_overfull-clause-rest : goal.returns-then-is_overfull-clause-rest
returns-then-is_overfull-clause-rest g c = λ none. none

pub returns-then-not-branch-clause-rest : goal.returns-then-not-branch-clause-rest
returns-then-not-branch-clause-rest g c = λ none. sym c.plan.ensures.sums ∙ none

pub returns-then-is_over-clause-rest : goal.returns-then-is_over-clause-rest
returns-then-is_over-clause-rest g c = λ none. sym c.plan.ensures.sums ∙ none

pub returns-then-not-branch-2-clause-rest : goal.returns-then-not-branch-2-clause-rest
returns-then-not-branch-2-clause-rest g c = λ none. sym c.plan.ensures.sums ∙ none

pub returns-then-not-branch-3-clause-rest : goal.returns-then-not-branch-3-clause-rest
returns-then-not-branch-3-clause-rest g c = λ none. sym c.plan.ensures.sums ∙ c.in_ok-commit.ensures.rest (c.undo.ensures.rest none)

pub returns-then-from-below-clause-rest : goal.returns-then-from-below-clause-rest
returns-then-from-below-clause-rest g c = λ none. sym c.plan.ensures.sums ∙ c.in_ok-commit.ensures.rest (c.undo-then-from-below.ensures.rest none)

pub returns-clause-rest : goal.returns-clause-rest
returns-clause-rest g c = λ none. sym c.plan.ensures.sums ∙ c.in_ok-commit.ensures.rest (sym c.forget.ensures.sums ∙ none)

pub returns-then-is_least_over-clause-map : goal.returns-then-is_least_over-clause-map
returns-then-is_least_over-clause-map g c = λ is. absurd (false≢true is)

pub returns-then-is_least_over-clause-cost : goal.returns-then-is_least_over-clause-cost
returns-then-is_least_over-clause-cost g c = λ is. absurd (false≢true is)

pub returns-then-is_least_over-clause-below : goal.returns-then-is_least_over-clause-below
returns-then-is_least_over-clause-below g c = λ is. absurd (false≢true is)

pub returns-then-is_least_over-clause-same_cost : goal.returns-then-is_least_over-clause-same_cost
returns-then-is_least_over-clause-same_cost g c = λ is. refl

pub returns-then-is_least_over-clause-state : goal.returns-then-is_least_over-clause-state
returns-then-is_least_over-clause-state g c = c.requires.state

pub returns-then-is_least_over-clause-none : goal.returns-then-is_least_over-clause-none
returns-then-is_least_over-clause-none g c = c.requires.none

pub returns-then-is_least_over-clause-places : goal.returns-then-is_least_over-clause-places
returns-then-is_least_over-clause-places g c = refl

pub returns-then-is_least_over-clause-plugs : goal.returns-then-is_least_over-clause-plugs
returns-then-is_least_over-clause-plugs g c = λ is. refl

pub returns-then-is_least_over-clause-rest : goal.returns-then-is_least_over-clause-rest
returns-then-is_least_over-clause-rest g c = λ none. none

pub returns-then-is_least_over-clause-over : goal.returns-then-is_least_over-clause-over
returns-then-is_least_over-clause-over g c = λ is last was m found.
    let x = c.args.search.now.mapper in
    let s = sought_of c.args.search.now c.args.rule.now.number in
    let places = c.args.self.now.state.mapping.places in
    let same = (mapped_is x.lab.now x.free.now x.wiring.now places m found).same_places in
    subst (λ (l : List Place). c.args.below ≤ price s (record { places = l; plugs = m.plugs })) (sym same) (c.is_least_over.ensures c.if-is_least_over.true m.plugs)

pub returns-then-is_least_over-clause-ruled_out : goal.returns-then-is_least_over-clause-ruled_out
returns-then-is_least_over-clause-ruled_out g c = λ is yes last was plugs kept. c.is_least_over.ensures c.if-is_least_over.true plugs
