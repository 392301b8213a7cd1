use Rattle.std.proofs.Common.{◌≡◌, ◌≢◌, ◌<◌, ◌∙◌, List, [], length, get_or, Some, Contains, sym, ap, subst, arith}
use Rattle.virt_topo.specs.declared.mapping.Mapping.{Mapping}
use Rattle.lab_model.specs.Shapes.{Place}
use Rattle.lab_model.specs.Rules.{no_place, place_at}
use Rattle.node_maps.specs.NodeMaps.{node_map}
use Rattle.map_anneal.specs.Sought.{choices, price}
use Rattle.map_anneal.specs.Searches.{sought_of}
use Rattle.map_anneal.specs.RuledOut.{IsNoLess}
use Rattle.map_anneal.proofs.Undone.{mapping_is, exchanged_at, exchanged_by, exchanged_back, was_exchanged}
use Rattle.std.proofs.lemmas.Bool.{false≢true}
use Rattle.map_anneal.proofs.tried.Tried.exchange_if_cheaper.Goals as goal

pub returns-then-branch-clause-map : goal.returns-then-branch-clause-map
returns-then-branch-clause-map g c = λ is.
    let x = c.args.search.now in
    let m = c.args.self.now.state.mapping in
    let v = c.args.first in
    let u = c.args.second in
    let choice = c.requires.tried.state.state.choice in
    let u_lt : u < length m.places = omega (arith, c.requires.second, choice.one_each) in
    let v_lt : v < length m.places = omega (arith, c.requires.ordered, u_lt) in
    let one : c.place_of-one.result ≡ place_at m v = c.place_of-one.ensures ∙ ap (λ (l : List Place). get_or l v no_place) c.as_slice.ensures in
    let other : c.place_of-other.result ≡ place_at m u = c.place_of-other.ensures ∙ ap (λ (l : List Place). get_or l u no_place) c.as_slice-2.ensures in
    let there = exchanged_by m c.place_both.new.self.state.mapping v u c.place_of-one.result c.place_of-other.result one other c.place_both.ensures.mapping in
    let was = was_exchanged x c.args.self.now.state c.place_both.new.self.state.mapping v u c.place_of-one.result.0.0 c.place_of-other.result.0.0 c.requires.tried.state v_lt u_lt there (ap (λ (p : Place). p.0.0) one) (ap (λ (p : Place). p.0.0) other) in
    ap (λ (y : Mapping). node_map x.mapper.lab.now x.mapper.free.now x.mapper.wiring.now y.places) (sym there) ∙ c.in_ok-commit_if_cheaper.ensures.map c.if-branch.true m.places was

pub returns-then-branch-clause-tried : goal.returns-then-branch-clause-tried
returns-then-branch-clause-tried g c =
    let x = c.args.search.now in
    let m = c.args.self.now.state.mapping in
    let v = c.args.first in
    let u = c.args.second in
    let choice = c.requires.tried.state.state.choice in
    let u_lt : u < length m.places = omega (arith, c.requires.second, choice.one_each) in
    let v_lt : v < length m.places = omega (arith, c.requires.ordered, u_lt) in
    let one : c.place_of-one.result ≡ place_at m v = c.place_of-one.ensures ∙ ap (λ (l : List Place). get_or l v no_place) c.as_slice.ensures in
    let other : c.place_of-other.result ≡ place_at m u = c.place_of-other.ensures ∙ ap (λ (l : List Place). get_or l u no_place) c.as_slice-2.ensures in
    let there = exchanged_by m c.place_both.new.self.state.mapping v u c.place_of-one.result c.place_of-other.result one other c.place_both.ensures.mapping in
    let was = was_exchanged x c.args.self.now.state c.place_both.new.self.state.mapping v u c.place_of-one.result.0.0 c.place_of-other.result.0.0 c.requires.tried.state v_lt u_lt there (ap (λ (p : Place). p.0.0) one) (ap (λ (p : Place). p.0.0) other) in
    record {
      state = record {
        state = c.in_ok-commit_if_cheaper.ensures.state;
        mapped = ap (λ (l : List Place). node_map x.mapper.lab.now x.mapper.free.now x.mapper.wiring.now l) c.in_ok-commit_if_cheaper.ensures.places ∙ c.in_ok-commit_if_cheaper.ensures.map c.if-branch.true m.places was;
      };
      none = c.in_ok-commit_if_cheaper.ensures.none;
      cost = c.in_ok-commit_if_cheaper.ensures.cost c.if-branch.true;
      resting = λ none. c.requires.tried.resting (sym c.place_both.ensures.sums ∙ c.in_ok-commit_if_cheaper.ensures.rest none);
    }

pub place_both-requires-clause-first_among : goal.place_both-requires-clause-first_among
place_both-requires-clause-first_among g c =
    let s = sought_of c.args.search.now c.args.rule.now.number in
    let m = c.args.self.now.state.mapping in
    let v = c.args.first in
    let u = c.args.second in
    let other : c.place_of-other.result ≡ place_at m u = c.place_of-other.ensures ∙ ap (λ (l : List Place). get_or l u no_place) c.as_slice-2.ensures in
    subst (λ (p : Place). Contains (get_or (choices s) v []) p) (sym other) c.requires.first_among

pub place_both-requires-clause-second_among : goal.place_both-requires-clause-second_among
place_both-requires-clause-second_among g c =
    let s = sought_of c.args.search.now c.args.rule.now.number in
    let m = c.args.self.now.state.mapping in
    let v = c.args.first in
    let u = c.args.second in
    let one : c.place_of-one.result ≡ place_at m v = c.place_of-one.ensures ∙ ap (λ (l : List Place). get_or l v no_place) c.as_slice.ensures in
    subst (λ (p : Place). Contains (get_or (choices s) u []) p) (sym one) c.requires.second_among

pub place_both-requires-2-clause-first_among : goal.place_both-requires-2-clause-first_among
place_both-requires-2-clause-first_among g c =
    let s = sought_of c.args.search.now c.args.rule.now.number in
    let m = c.args.self.now.state.mapping in
    let v = c.args.first in
    let one : c.place_of-one.result ≡ place_at m v = c.place_of-one.ensures ∙ ap (λ (l : List Place). get_or l v no_place) c.as_slice.ensures in
    subst (λ (p : Place). Contains (get_or (choices s) v []) p) (sym one) (c.requires.tried.state.state.choice.among v no_place (omega (arith, c.requires.ordered, c.requires.second)))

pub place_both-requires-2-clause-second_among : goal.place_both-requires-2-clause-second_among
place_both-requires-2-clause-second_among g c =
    let s = sought_of c.args.search.now c.args.rule.now.number in
    let m = c.args.self.now.state.mapping in
    let u = c.args.second in
    let other : c.place_of-other.result ≡ place_at m u = c.place_of-other.ensures ∙ ap (λ (l : List Place). get_or l u no_place) c.as_slice-2.ensures in
    subst (λ (p : Place). Contains (get_or (choices s) u []) p) (sym other) (c.requires.tried.state.state.choice.among u no_place c.requires.second)

pub returns-clause-same : goal.returns-clause-same
returns-clause-same g c = λ is.
    let m = c.args.self.now.state.mapping in
    let v = c.args.first in
    let u = c.args.second in
    let apart : v ≢ u = λ e. absurd (omega (arith, e, c.requires.ordered)) in
    let one : c.place_of-one.result ≡ place_at m v = c.place_of-one.ensures ∙ ap (λ (l : List Place). get_or l v no_place) c.as_slice.ensures in
    let other : c.place_of-other.result ≡ place_at m u = c.place_of-other.ensures ∙ ap (λ (l : List Place). get_or l u no_place) c.as_slice-2.ensures in
    let there = exchanged_by m c.place_both.new.self.state.mapping v u c.place_of-one.result c.place_of-other.result one other c.place_both.ensures.mapping in
    let left : c.commit_if_cheaper.new.self.state.mapping ≡ exchanged_at m v u =
    mapping_is c.commit_if_cheaper.new.self.state.mapping (exchanged_at m v u)
    (c.in_ok-commit_if_cheaper.ensures.places ∙ ap (λ (y : Mapping). y.places) there)
    (c.in_ok-commit_if_cheaper.ensures.plugs c.if-branch.false ∙ ap (λ (y : Mapping). y.plugs) there) in
    exchanged_back m c.commit_if_cheaper.new.self.state.mapping c.place_both-2.new.self.state.mapping v u c.place_of-one.result c.place_of-other.result apart one other left c.place_both-2.ensures.mapping

pub returns-clause-tried : goal.returns-clause-tried
returns-clause-tried g c =
    let x = c.args.search.now in
    let s = sought_of c.args.search.now c.args.rule.now.number in
    let m = c.args.self.now.state.mapping in
    let v = c.args.first in
    let u = c.args.second in
    let apart : v ≢ u = λ e. absurd (omega (arith, e, c.requires.ordered)) in
    let one : c.place_of-one.result ≡ place_at m v = c.place_of-one.ensures ∙ ap (λ (l : List Place). get_or l v no_place) c.as_slice.ensures in
    let other : c.place_of-other.result ≡ place_at m u = c.place_of-other.ensures ∙ ap (λ (l : List Place). get_or l u no_place) c.as_slice-2.ensures in
    let there = exchanged_by m c.place_both.new.self.state.mapping v u c.place_of-one.result c.place_of-other.result one other c.place_both.ensures.mapping in
    let left : c.commit_if_cheaper.new.self.state.mapping ≡ exchanged_at m v u =
    mapping_is c.commit_if_cheaper.new.self.state.mapping (exchanged_at m v u)
    (c.in_ok-commit_if_cheaper.ensures.places ∙ ap (λ (y : Mapping). y.places) there)
    (c.in_ok-commit_if_cheaper.ensures.plugs c.if-branch.false ∙ ap (λ (y : Mapping). y.plugs) there) in
    let same : c.place_both-2.new.self.state.mapping ≡ m =
    exchanged_back m c.commit_if_cheaper.new.self.state.mapping c.place_both-2.new.self.state.mapping v u c.place_of-one.result c.place_of-other.result apart one other left c.place_both-2.ensures.mapping in
    record {
      state = record {
        state = c.place_both-2.ensures.state;
        mapped = subst (λ (y : Mapping). node_map x.mapper.lab.now x.mapper.free.now x.mapper.wiring.now y.places ≡ Some y) (sym same) c.requires.tried.state.mapped;
      };
      none = c.place_both-2.ensures.back ∙ c.in_ok-commit_if_cheaper.ensures.none;
      cost = c.place_both-2.ensures.cost ∙ c.in_ok-commit_if_cheaper.ensures.same_cost c.if-branch.false ∙ c.place_both.ensures.cost ∙ c.requires.tried.cost ∙ ap (price s) (sym same);
      resting = λ none. c.requires.tried.resting (sym c.place_both.ensures.sums ∙ c.in_ok-commit_if_cheaper.ensures.rest (sym c.place_both-2.ensures.sums ∙ none));
    }

pub returns-clause-over : goal.returns-clause-over
returns-clause-over g c = λ is map found.
    let x = c.args.search.now in
    let m = c.args.self.now.state.mapping in
    let v = c.args.first in
    let u = c.args.second in
    let choice = c.requires.tried.state.state.choice in
    let u_lt : u < length m.places = omega (arith, c.requires.second, choice.one_each) in
    let v_lt : v < length m.places = omega (arith, c.requires.ordered, u_lt) in
    let one : c.place_of-one.result ≡ place_at m v = c.place_of-one.ensures ∙ ap (λ (l : List Place). get_or l v no_place) c.as_slice.ensures in
    let other : c.place_of-other.result ≡ place_at m u = c.place_of-other.ensures ∙ ap (λ (l : List Place). get_or l u no_place) c.as_slice-2.ensures in
    let there = exchanged_by m c.place_both.new.self.state.mapping v u c.place_of-one.result c.place_of-other.result one other c.place_both.ensures.mapping in
    let was = was_exchanged x c.args.self.now.state c.place_both.new.self.state.mapping v u c.place_of-one.result.0.0 c.place_of-other.result.0.0 c.requires.tried.state v_lt u_lt there (ap (λ (p : Place). p.0.0) one) (ap (λ (p : Place). p.0.0) other) in
    c.in_ok-commit_if_cheaper.ensures.over c.if-branch.false m.places was map (ap (λ (y : Mapping). node_map x.mapper.lab.now x.mapper.free.now x.mapper.wiring.now y.places) there ∙ found)

pub returns-clause-ruled_out : goal.returns-clause-ruled_out
returns-clause-ruled_out g c = λ is yes.
    let x = c.args.search.now in
    let s = sought_of c.args.search.now c.args.rule.now.number in
    let m = c.args.self.now.state.mapping in
    let v = c.args.first in
    let u = c.args.second in
    let choice = c.requires.tried.state.state.choice in
    let u_lt : u < length m.places = omega (arith, c.requires.second, choice.one_each) in
    let v_lt : v < length m.places = omega (arith, c.requires.ordered, u_lt) in
    let one : c.place_of-one.result ≡ place_at m v = c.place_of-one.ensures ∙ ap (λ (l : List Place). get_or l v no_place) c.as_slice.ensures in
    let other : c.place_of-other.result ≡ place_at m u = c.place_of-other.ensures ∙ ap (λ (l : List Place). get_or l u no_place) c.as_slice-2.ensures in
    let there = exchanged_by m c.place_both.new.self.state.mapping v u c.place_of-one.result c.place_of-other.result one other c.place_both.ensures.mapping in
    let was = was_exchanged x c.args.self.now.state c.place_both.new.self.state.mapping v u c.place_of-one.result.0.0 c.place_of-other.result.0.0 c.requires.tried.state v_lt u_lt there (ap (λ (p : Place). p.0.0) one) (ap (λ (p : Place). p.0.0) other) in
    subst (λ (y : Mapping). IsNoLess s c.args.below y.places) there
    (c.in_ok-commit_if_cheaper.ensures.ruled_out c.if-branch.false (sym c.place_both-2.ensures.ruled_out ∙ yes) m.places was)

pub place_both-requires-clause-first : goal.place_both-requires-clause-first
place_both-requires-clause-first g c =
    let m = c.args.self.now.state.mapping in
    let v = c.args.first in
    let u = c.args.second in
    let laid = c.requires.tried.state.state in
    let u_lt : u < length m.places = omega (arith, c.requires.second, laid.choice.one_each) in
    let v_lt : v < length m.places = omega (arith, c.requires.ordered, u_lt) in
    omega (arith, v_lt, laid.shaped.places)

pub place_both-requires-clause-second : goal.place_both-requires-clause-second
place_both-requires-clause-second g c =
    let m = c.args.self.now.state.mapping in
    let v = c.args.first in
    let u = c.args.second in
    let laid = c.requires.tried.state.state in
    let u_lt : u < length m.places = omega (arith, c.requires.second, laid.choice.one_each) in
    let v_lt : v < length m.places = omega (arith, c.requires.ordered, u_lt) in
    omega (arith, u_lt, laid.shaped.places)

pub place_both-requires-2-clause-first : goal.place_both-requires-2-clause-first
place_both-requires-2-clause-first g c =
    let m = c.args.self.now.state.mapping in
    let v = c.args.first in
    let u = c.args.second in
    let laid = c.requires.tried.state.state in
    let u_lt : u < length m.places = omega (arith, c.requires.second, laid.choice.one_each) in
    let v_lt : v < length m.places = omega (arith, c.requires.ordered, u_lt) in
    omega (arith, v_lt, laid.shaped.places)

pub place_both-requires-2-clause-second : goal.place_both-requires-2-clause-second
place_both-requires-2-clause-second g c =
    let m = c.args.self.now.state.mapping in
    let v = c.args.first in
    let u = c.args.second in
    let laid = c.requires.tried.state.state in
    let u_lt : u < length m.places = omega (arith, c.requires.second, laid.choice.one_each) in
    let v_lt : v < length m.places = omega (arith, c.requires.ordered, u_lt) in
    omega (arith, u_lt, laid.shaped.places)

pub place_both-requires-clause-state : goal.place_both-requires-clause-state
place_both-requires-clause-state g c = c.requires.tried.state.state

pub place_both-requires-2-clause-state : goal.place_both-requires-2-clause-state
place_both-requires-2-clause-state g c = c.in_ok-commit_if_cheaper.ensures.state

pub commit_if_cheaper-requires-clause-state : goal.commit_if_cheaper-requires-clause-state
commit_if_cheaper-requires-clause-state g c = c.place_both.ensures.state

pub commit_if_cheaper-requires-clause-resting : goal.commit_if_cheaper-requires-clause-resting
commit_if_cheaper-requires-clause-resting g c = λ none. c.requires.tried.resting (sym c.place_both.ensures.sums ∙ none)

pub commit_if_cheaper-requires-clause-none : goal.commit_if_cheaper-requires-clause-none
commit_if_cheaper-requires-clause-none g c = c.place_both.ensures.back ∙ c.requires.tried.none

pub commit_if_cheaper-requires-clause-first : goal.commit_if_cheaper-requires-clause-first
commit_if_cheaper-requires-clause-first g c =
    let m = c.args.self.now.state.mapping in
    let v = c.args.first in
    let u = c.args.second in
    let laid = c.requires.tried.state.state in
    let u_lt : u < length m.places = omega (arith, c.requires.second, laid.choice.one_each) in
    let v_lt : v < length m.places = omega (arith, c.requires.ordered, u_lt) in
    let one : c.place_of-one.result ≡ place_at m v = c.place_of-one.ensures ∙ ap (λ (l : List Place). get_or l v no_place) c.as_slice.ensures in
    subst (λ (p : Place). p.0.0 < length c.args.search.now.mapper.lab.now.nodes) (sym one) (laid.shaped.in_nodes v no_place v_lt)

pub commit_if_cheaper-requires-clause-second : goal.commit_if_cheaper-requires-clause-second
commit_if_cheaper-requires-clause-second g c =
    let m = c.args.self.now.state.mapping in
    let v = c.args.first in
    let u = c.args.second in
    let laid = c.requires.tried.state.state in
    let u_lt : u < length m.places = omega (arith, c.requires.second, laid.choice.one_each) in
    let v_lt : v < length m.places = omega (arith, c.requires.ordered, u_lt) in
    let other : c.place_of-other.result ≡ place_at m u = c.place_of-other.ensures ∙ ap (λ (l : List Place). get_or l u no_place) c.as_slice-2.ensures in
    subst (λ (p : Place). p.0.0 < length c.args.search.now.mapper.lab.now.nodes) (sym other) (laid.shaped.in_nodes u no_place u_lt)

pub commit_if_cheaper-requires-clause-first_virt : goal.commit_if_cheaper-requires-clause-first_virt
commit_if_cheaper-requires-clause-first_virt g c =
    let m = c.args.self.now.state.mapping in
    let v = c.args.first in
    let u = c.args.second in
    let laid = c.requires.tried.state.state in
    let u_lt : u < length m.places = omega (arith, c.requires.second, laid.choice.one_each) in
    let v_lt : v < length m.places = omega (arith, c.requires.ordered, u_lt) in
    omega (arith, u_lt, laid.shaped.places)

pub commit_if_cheaper-requires-clause-second_virt : goal.commit_if_cheaper-requires-clause-second_virt
commit_if_cheaper-requires-clause-second_virt g c =
    let m = c.args.self.now.state.mapping in
    let v = c.args.first in
    let u = c.args.second in
    let laid = c.requires.tried.state.state in
    let u_lt : u < length m.places = omega (arith, c.requires.second, laid.choice.one_each) in
    let v_lt : v < length m.places = omega (arith, c.requires.ordered, u_lt) in
    omega (arith, v_lt, laid.shaped.places)

pub returns-then-branch-clause-below : goal.returns-then-branch-clause-below
returns-then-branch-clause-below g c = λ is. c.in_ok-commit_if_cheaper.ensures.below c.if-branch.true

pub returns-then-branch-clause-same : goal.returns-then-branch-clause-same
returns-then-branch-clause-same g c = λ is. absurd (false≢true (sym is))

pub returns-then-branch-clause-same_cost : goal.returns-then-branch-clause-same_cost
returns-then-branch-clause-same_cost g c = λ is. absurd (false≢true (sym is))

pub returns-then-branch-clause-over : goal.returns-then-branch-clause-over
returns-then-branch-clause-over g c = λ is m found. absurd (false≢true (sym is))

pub returns-then-branch-clause-ruled_out : goal.returns-then-branch-clause-ruled_out
returns-then-branch-clause-ruled_out g c = λ is yes. absurd (false≢true (sym is))

pub returns-clause-map : goal.returns-clause-map
returns-clause-map g c = λ is. absurd (false≢true is)

pub returns-clause-below : goal.returns-clause-below
returns-clause-below g c = λ is. absurd (false≢true is)

pub returns-clause-same_cost : goal.returns-clause-same_cost
returns-clause-same_cost g c = λ is. c.place_both-2.ensures.cost ∙ c.in_ok-commit_if_cheaper.ensures.same_cost c.if-branch.false ∙ c.place_both.ensures.cost
