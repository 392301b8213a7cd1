use Rattle.std.proofs.Common.{◌≡◌, ◌<◌, ◌∙◌, List, [], length, get_or, sym, ap, subst, arith, refl, Contains}
use Rattle.std.proofs.Math.ListN.{set}
use Rattle.std.proofs.lemmas.Bool.{ltb-false, false≢true, ltb-true}
use Rattle.std.proofs.lemmas.List.{get_or_default}
use Rattle.std.proofs.lemmas.Option.{same_Some}
use Rattle.lab_model.specs.Shapes.{Place}
use Rattle.lab_model.specs.Rules.{no_place}
use Rattle.node_maps.specs.NodeMaps.{node_map}
use Rattle.map_anneal.specs.Sought.{choices, price}
use Rattle.map_anneal.specs.Searches.{sought_of}
use Rattle.map_anneal.proofs.TriedMoves.{candidate_among}
use Rattle.map_anneal.proofs.Undone.{stays}
use Rattle.map_anneal.specs.RuledOut.{IsNoLess}
use Rattle.map_anneal.proofs.tried.Tried.move_on_if_cheaper.Goals as goal

pub returns-then-eq-clause-map : goal.returns-then-eq-clause-map
returns-then-eq-clause-map g c = λ is.
    let x = c.args.search.now.mapper in
    let m = c.args.self.now.state.mapping in
    let v = c.args.node in
    let at = c.at-place.ensures.named ∙ ap (λ (l : List (List Place)). get_or (get_or l v []) c.args.number no_place) c.requires.search.listed in
    let choice = c.requires.tried.state.state.choice in
    let lt : v < length m.places = omega (arith, c.requires.within, choice.one_each) in
    let own = c.index-as_slice-node.result in
    let from : own ≡ get_or m.places v no_place = c.index-as_slice-node.is ∙ ap (λ (l : List Place). get_or l v own) c.as_slice.ensures ∙ get_or_default m.places v own no_place lt in
    ap (λ (p : Place). node_map x.lab.now x.free.now x.wiring.now (set m.places v p)) (sym at)
    ∙ ap (node_map x.lab.now x.free.now x.wiring.now) (stays m.places v c.at-place.result.now own (sym c.eq.ensures ∙ c.if-eq.true) from)
    ∙ c.requires.tried.state.mapped

pub returns-then-eq-clause-over : goal.returns-then-eq-clause-over
returns-then-eq-clause-over g c = λ is other found.
    let x = c.args.search.now.mapper in
    let m = c.args.self.now.state.mapping in
    let v = c.args.node in
    let s = sought_of c.args.search.now c.args.rule.now.number in
    let at = c.at-place.ensures.named ∙ ap (λ (l : List (List Place)). get_or (get_or l v []) c.args.number no_place) c.requires.search.listed in
    let choice = c.requires.tried.state.state.choice in
    let lt : v < length m.places = omega (arith, c.requires.within, choice.one_each) in
    let own = c.index-as_slice-node.result in
    let from : own ≡ get_or m.places v no_place = c.index-as_slice-node.is ∙ ap (λ (l : List Place). get_or l v own) c.as_slice.ensures ∙ get_or_default m.places v own no_place lt in
    let places = stays m.places v c.at-place.result.now own (sym c.eq.ensures ∙ c.if-eq.true) from in
    let moved = ap (λ (p : Place). node_map x.lab.now x.free.now x.wiring.now (set m.places v p)) (sym at) ∙ ap (node_map x.lab.now x.free.now x.wiring.now) places in
    let same : m ≡ other = same_Some m other (sym c.requires.tried.state.mapped ∙ sym moved ∙ found) in
    let cost = c.requires.tried.cost ∙ ap (price s) same in
    let wide = c.from.ensures in
    let le = ltb-false c.from.result c.args.below is in
    omega (arith, cost, wide, le)

pub at-place-requires-clause-virt : goal.at-place-requires-clause-virt
at-place-requires-clause-virt g c = omega (arith, ap length c.requires.search.listed, c.requires.within)

pub at-place-requires-clause-number : goal.at-place-requires-clause-number
at-place-requires-clause-number g c = omega (arith, ap (λ (l : List (List Place)). length (get_or l c.args.node [])) c.requires.search.listed, c.requires.number)

pub returns-then-eq-clause-tried : goal.returns-then-eq-clause-tried
returns-then-eq-clause-tried g c = record { state = c.requires.tried.state; none = c.requires.tried.none; cost = c.requires.tried.cost; resting = c.requires.tried.resting }

pub returns-then-eq-clause-below : goal.returns-then-eq-clause-below
returns-then-eq-clause-below g c = λ is.
    let le = ltb-true c.from.result c.args.below is in
    omega (arith, c.from.ensures, le)

pub returns-then-eq-clause-same : goal.returns-then-eq-clause-same
returns-then-eq-clause-same g c = λ is. refl

pub returns-then-eq-clause-same_cost : goal.returns-then-eq-clause-same_cost
returns-then-eq-clause-same_cost g c = λ is. refl

pub returns-then-eq-clause-ruled_out : goal.returns-then-eq-clause-ruled_out
returns-then-eq-clause-ruled_out g c = λ is yes. absurd (false≢true yes)

pub move_to_if_cheaper-requires-clause-tried : goal.move_to_if_cheaper-requires-clause-tried
move_to_if_cheaper-requires-clause-tried g c = record { state = c.requires.tried.state; none = c.requires.tried.none; cost = c.requires.tried.cost; resting = c.requires.tried.resting }

pub returns-clause-tried : goal.returns-clause-tried
returns-clause-tried g c = c.in_ok-yes.ensures.tried

pub returns-clause-map : goal.returns-clause-map
returns-clause-map g c = λ is.
    let x = c.args.search.now.mapper in
    let s = sought_of c.args.search.now c.args.rule.now.number in
    let m = c.args.self.now.state.mapping in
    let v = c.args.node in
    let at = c.at-place.ensures.named ∙ ap (λ (l : List (List Place)). get_or (get_or l v []) c.args.number no_place) c.requires.search.listed in
    ap (λ (p : Place). node_map x.lab.now x.free.now x.wiring.now (set m.places v p)) (sym at) ∙ c.in_ok-yes.ensures.map is

pub returns-clause-over : goal.returns-clause-over
returns-clause-over g c = λ is other found.
    let x = c.args.search.now.mapper in
    let s = sought_of c.args.search.now c.args.rule.now.number in
    let m = c.args.self.now.state.mapping in
    let v = c.args.node in
    let at = c.at-place.ensures.named ∙ ap (λ (l : List (List Place)). get_or (get_or l v []) c.args.number no_place) c.requires.search.listed in
    c.in_ok-yes.ensures.over is other (ap (λ (p : Place). node_map x.lab.now x.free.now x.wiring.now (set m.places v p)) at ∙ found)

pub returns-clause-ruled_out : goal.returns-clause-ruled_out
returns-clause-ruled_out g c = λ is yes.
    let s = sought_of c.args.search.now c.args.rule.now.number in
    let m = c.args.self.now.state.mapping in
    let v = c.args.node in
    let at = c.at-place.ensures.named ∙ ap (λ (l : List (List Place)). get_or (get_or l v []) c.args.number no_place) c.requires.search.listed in
    subst (λ (p : Place). IsNoLess s c.args.below (set m.places v p)) at (c.in_ok-yes.ensures.ruled_out is yes)

pub move_to_if_cheaper-requires-clause-among : goal.move_to_if_cheaper-requires-clause-among
move_to_if_cheaper-requires-clause-among g c =
    let s = sought_of c.args.search.now c.args.rule.now.number in
    let v = c.args.node in
    let at = c.at-place.ensures.named ∙ ap (λ (l : List (List Place)). get_or (get_or l v []) c.args.number no_place) c.requires.search.listed in
    subst (λ (p : Place). Contains (get_or (choices s) v []) p) (sym at) (candidate_among s v c.args.number c.requires.number)

pub move_to_if_cheaper-requires-clause-within : goal.move_to_if_cheaper-requires-clause-within
move_to_if_cheaper-requires-clause-within g c = omega (arith, c.requires.tried.state.state.choice.one_each, c.requires.tried.state.state.shaped.places, c.requires.within)
