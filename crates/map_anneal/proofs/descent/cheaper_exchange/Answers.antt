use Rattle.std.proofs.Common.{◌≡◌, ◌∙◌, ℕ, [], List, Contains, true, false, get_or, ap, sym, subst, arith}
use Rattle.lab_model.specs.Shapes.{Place}
use Rattle.lab_model.specs.Rules.{no_place, place_at}
use Rattle.node_maps.specs.NodeMaps.{lab_places}
use Rattle.node_maps.proofs.MapLaws.{candidates_count}
use Rattle.map_anneal.specs.Sought.{candidates_at, price}
use Rattle.map_anneal.specs.Searches.{sought_of}
use Rattle.map_anneal.specs.RuledOut.{IsNoLess, swapped}
use Rattle.map_anneal.proofs.MayHave.{listed_place}
use Rattle.map_anneal.proofs.descent.cheaper_exchange.Goals as goal

-- what is among equal lists
among : (xs ys : List Place) (p q : Place) → xs ≡ ys → p ≡ q → Contains xs p → Contains ys q
among xs ys p q same is has = subst (λ (l : List Place). Contains l q) same (subst (λ (r : Place). Contains xs r) is has)

pub may_have-requires-clause-virt : goal.may_have-requires-clause-virt
may_have-requires-clause-virt g c =
    let x = c.args.search.now.mapper in
    omega (arith, c.requires.ordered, c.requires.second, candidates_count x.lab.now x.free.now x.wiring.now)

pub may_have-requires-clause-place : goal.may_have-requires-clause-place
may_have-requires-clause-place g c =
    let x = c.args.search.now.mapper in
    let m = c.args.at.now.state.mapping in
    let u = c.args.second in
    let other : c.place_of-other.result ≡ place_at m u = c.place_of-other.ensures ∙ ap (λ (l : List Place). get_or l u no_place) c.as_slice-2.ensures in
    let in_nodes = candidates_count x.lab.now x.free.now x.wiring.now in
    subst (λ (p : Place). Contains (lab_places x.lab.now) p) (sym other)
    (listed_place x.lab.now x.free.now x.wiring.now u (place_at m u) (omega (arith, c.requires.second, in_nodes)) (c.requires.at.state.state.choice.among u no_place c.requires.second))

pub may_have-requires-2-clause-virt : goal.may_have-requires-2-clause-virt
may_have-requires-2-clause-virt g c =
    let x = c.args.search.now.mapper in
    omega (arith, c.requires.second, candidates_count x.lab.now x.free.now x.wiring.now)

pub may_have-requires-2-clause-place : goal.may_have-requires-2-clause-place
may_have-requires-2-clause-place g c =
    let x = c.args.search.now.mapper in
    let m = c.args.at.now.state.mapping in
    let v = c.args.first in
    let one : c.place_of-one.result ≡ place_at m v = c.place_of-one.ensures ∙ ap (λ (l : List Place). get_or l v no_place) c.as_slice.ensures in
    let in_nodes = candidates_count x.lab.now x.free.now x.wiring.now in
    subst (λ (p : Place). Contains (lab_places x.lab.now) p) (sym one)
    (listed_place x.lab.now x.free.now x.wiring.now v (place_at m v) (omega (arith, c.requires.ordered, c.requires.second, in_nodes))
    (c.requires.at.state.state.choice.among v no_place (omega (arith, c.requires.ordered, c.requires.second))))

pub returns-then-not-may_have-clause-none : goal.returns-then-not-may_have-clause-none
returns-then-not-may_have-clause-none g c = λ is there back.
    let s = sought_of c.args.search.now c.args.rule.now.number in
    let m = c.args.at.now.state.mapping in
    let u = c.args.second in
    let other : c.place_of-other.result ≡ place_at m u = c.place_of-other.ensures ∙ ap (λ (l : List Place). get_or l u no_place) c.as_slice-2.ensures in
    let listed = ap (λ (l : List (List Place)). get_or l c.args.first []) c.requires.search.listed in
    let both : false ≡ true = sym c.if-not-may_have.true ∙ c.may_have.ensures.1 (among (candidates_at s c.args.first) (get_or c.args.search.now.candidates.now c.args.first []) (place_at m u) c.place_of-other.result (sym listed) (sym other) there) in
    absurd (cc both)

pub returns-then-not-may_have-clause-ruled_out : goal.returns-then-not-may_have-clause-ruled_out
returns-then-not-may_have-clause-ruled_out g c = λ is yes there back.
    let s = sought_of c.args.search.now c.args.rule.now.number in
    let m = c.args.at.now.state.mapping in
    let u = c.args.second in
    let other : c.place_of-other.result ≡ place_at m u = c.place_of-other.ensures ∙ ap (λ (l : List Place). get_or l u no_place) c.as_slice-2.ensures in
    let listed = ap (λ (l : List (List Place)). get_or l c.args.first []) c.requires.search.listed in
    let both : false ≡ true = sym c.if-not-may_have.true ∙ c.may_have.ensures.1 (among (candidates_at s c.args.first) (get_or c.args.search.now.candidates.now c.args.first []) (place_at m u) c.place_of-other.result (sym listed) (sym other) there) in
    absurd (cc both)

pub returns-then-not-may_have-2-clause-none : goal.returns-then-not-may_have-2-clause-none
returns-then-not-may_have-2-clause-none g c = λ is there back.
    let s = sought_of c.args.search.now c.args.rule.now.number in
    let m = c.args.at.now.state.mapping in
    let v = c.args.first in
    let one : c.place_of-one.result ≡ place_at m v = c.place_of-one.ensures ∙ ap (λ (l : List Place). get_or l v no_place) c.as_slice.ensures in
    let listed = ap (λ (l : List (List Place)). get_or l c.args.second []) c.requires.search.listed in
    let both : false ≡ true = sym c.if-not-may_have-2.true ∙ c.may_have-2.ensures.1 (among (candidates_at s c.args.second) (get_or c.args.search.now.candidates.now c.args.second []) (place_at m v) c.place_of-one.result (sym listed) (sym one) back) in
    absurd (cc both)

pub returns-then-not-may_have-2-clause-ruled_out : goal.returns-then-not-may_have-2-clause-ruled_out
returns-then-not-may_have-2-clause-ruled_out g c = λ is yes there back.
    let s = sought_of c.args.search.now c.args.rule.now.number in
    let m = c.args.at.now.state.mapping in
    let v = c.args.first in
    let one : c.place_of-one.result ≡ place_at m v = c.place_of-one.ensures ∙ ap (λ (l : List Place). get_or l v no_place) c.as_slice.ensures in
    let listed = ap (λ (l : List (List Place)). get_or l c.args.second []) c.requires.search.listed in
    let both : false ≡ true = sym c.if-not-may_have-2.true ∙ c.may_have-2.ensures.1 (among (candidates_at s c.args.second) (get_or c.args.search.now.candidates.now c.args.second []) (place_at m v) c.place_of-one.result (sym listed) (sym one) back) in
    absurd (cc both)

pub exchange_if_cheaper-requires-clause-first_among : goal.exchange_if_cheaper-requires-clause-first_among
exchange_if_cheaper-requires-clause-first_among g c =
    let s = sought_of c.args.search.now c.args.rule.now.number in
    let m = c.args.at.now.state.mapping in
    let u = c.args.second in
    let other : c.place_of-other.result ≡ place_at m u = c.place_of-other.ensures ∙ ap (λ (l : List Place). get_or l u no_place) c.as_slice-2.ensures in
    let listed = ap (λ (l : List (List Place)). get_or l c.args.first []) c.requires.search.listed in
    among (get_or c.args.search.now.candidates.now c.args.first []) (candidates_at s c.args.first) c.place_of-other.result (place_at m u) listed other (c.may_have.ensures.0 c.if-not-may_have.false)

pub exchange_if_cheaper-requires-clause-second_among : goal.exchange_if_cheaper-requires-clause-second_among
exchange_if_cheaper-requires-clause-second_among g c =
    let s = sought_of c.args.search.now c.args.rule.now.number in
    let m = c.args.at.now.state.mapping in
    let v = c.args.first in
    let one : c.place_of-one.result ≡ place_at m v = c.place_of-one.ensures ∙ ap (λ (l : List Place). get_or l v no_place) c.as_slice.ensures in
    let listed = ap (λ (l : List (List Place)). get_or l c.args.second []) c.requires.search.listed in
    among (get_or c.args.search.now.candidates.now c.args.second []) (candidates_at s c.args.second) c.place_of-one.result (place_at m v) listed one (c.may_have-2.ensures.0 c.if-not-may_have-2.false)

pub returns-clause-ruled_out : goal.returns-clause-ruled_out
returns-clause-ruled_out g c = λ is yes there back.
    let s = sought_of c.args.search.now c.args.rule.now.number in
    let m = c.args.at.now.state.mapping in
    let below : ◌≡◌ {A = ℕ} c.from-below.result (price s m) = c.from-below.ensures ∙ c.requires.at.cost in
    subst (λ (n : ℕ). IsNoLess s n (swapped m c.args.first c.args.second)) below (c.in_ok-yes.ensures.ruled_out is yes)
