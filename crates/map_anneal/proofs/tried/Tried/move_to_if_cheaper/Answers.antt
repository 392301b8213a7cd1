use Rattle.std.proofs.Common.{◌≡◌, ◌<◌, ◌∙◌, ℕ, List, [], length, get_or, Some, Contains, sym, ap, subst, arith, get_or-set_same}
use Rattle.std.proofs.Math.ListN.{set}
use Rattle.virt_topo.specs.declared.mapping.Mapping.{Mapping}
use Rattle.virt_topo.specs.Wirings.{virt_at}
use Rattle.lab_model.specs.Shapes.{Place}
use Rattle.lab_model.specs.Rules.{no_place}
use Rattle.cost_rule.specs.Cost.{soft}
use Rattle.node_maps.specs.NodeMaps.{node_map}
use Rattle.map_state.proofs.Choices.{choice_moved}
use Rattle.map_state.specs.Members.{asked_index}
use Rattle.map_state.specs.Hosted.{placed_at}
use Rattle.map_anneal.specs.Sought.{choices, price}
use Rattle.map_anneal.specs.Searches.{sought_of}
use Rattle.map_anneal.specs.RuledOut.{IsNoLess}
use Rattle.map_state.proofs.Alikes.{place_within}
use Rattle.map_anneal.proofs.Told.{map_over}
use Rattle.map_anneal.proofs.Undone.{mapping_is, moved_back, was_moved}
use Rattle.map_anneal.proofs.tried.Tried.move_to_if_cheaper.Goals as goal

pub commit_if_cheaper-requires-clause-first : goal.commit_if_cheaper-requires-clause-first
commit_if_cheaper-requires-clause-first g c =
    let x = c.args.search.now.mapper in
    let s = sought_of c.args.search.now c.args.rule.now.number in
    let places = c.args.self.now.state.mapping.places in
    let choice = c.requires.tried.state.state.choice in
    let changed = choice_moved (choices s) places c.args.node c.args.place.now choice c.requires.within c.requires.among in
    let within : c.args.node < length places = omega (arith, c.requires.within, choice.one_each) in
    subst (λ (p : Place). p.0.0 < length x.lab.now.nodes) (get_or-set_same places c.args.node c.args.place.now no_place within)
    (place_within x.lab.now x.free.now x.wiring.now (set places c.args.node c.args.place.now) c.args.node changed c.requires.within)

pub commit_if_cheaper-requires-clause-resting : goal.commit_if_cheaper-requires-clause-resting
commit_if_cheaper-requires-clause-resting g c = λ none. c.requires.tried.resting (sym c.place_predicted.ensures.sums ∙ none)

pub commit_if_cheaper-requires-clause-second : goal.commit_if_cheaper-requires-clause-second
commit_if_cheaper-requires-clause-second g c =
    let x = c.args.search.now.mapper in
    let v = c.args.node in
    let laid = c.requires.tried.state.state in
    let lt : v < length c.args.self.now.state.mapping.places = omega (arith, c.requires.within, laid.choice.one_each) in
    let from = ap (λ (p : Place). p.0.0) (c.place_of-old.ensures ∙ ap (λ (l : List Place). get_or l v no_place) c.as_slice.ensures) in
    subst (λ (n : ℕ). n < length x.lab.now.nodes) (sym from) (laid.shaped.in_nodes v no_place lt)

pub returns-then-branch-clause-map : goal.returns-then-branch-clause-map
returns-then-branch-clause-map g c = λ is.
    let x = c.args.search.now in
    let m = c.args.self.now.state.mapping in
    let v = c.args.node in
    let choice = c.requires.tried.state.state.choice in
    let lt : v < length m.places = omega (arith, c.requires.within, choice.one_each) in
    let from = ap (λ (p : Place). p.0.0) (c.place_of-old.ensures ∙ ap (λ (l : List Place). get_or l v no_place) c.as_slice.ensures) in
    let was = was_moved x c.args.self.now.state c.place_predicted.new.self.mapping v c.args.place.now c.place_of-old.result.0.0 c.requires.tried.state lt c.place_predicted.ensures.mapping from in
    ap (λ (y : Mapping). node_map x.mapper.lab.now x.mapper.free.now x.mapper.wiring.now y.places) (sym c.place_predicted.ensures.mapping) ∙ c.in_ok-commit_if_cheaper.ensures.map c.if-branch.true m.places was

pub returns-then-branch-clause-tried : goal.returns-then-branch-clause-tried
returns-then-branch-clause-tried g c =
    let x = c.args.search.now in
    let m = c.args.self.now.state.mapping in
    let v = c.args.node in
    let choice = c.requires.tried.state.state.choice in
    let lt : v < length m.places = omega (arith, c.requires.within, choice.one_each) in
    let from = ap (λ (p : Place). p.0.0) (c.place_of-old.ensures ∙ ap (λ (l : List Place). get_or l v no_place) c.as_slice.ensures) in
    let was = was_moved x c.args.self.now.state c.place_predicted.new.self.mapping v c.args.place.now c.place_of-old.result.0.0 c.requires.tried.state lt c.place_predicted.ensures.mapping from in
    record {
      state = record {
        state = c.in_ok-commit_if_cheaper.ensures.state;
        mapped = ap (λ (l : List Place). node_map x.mapper.lab.now x.mapper.free.now x.mapper.wiring.now l) c.in_ok-commit_if_cheaper.ensures.places ∙ c.in_ok-commit_if_cheaper.ensures.map c.if-branch.true m.places was;
      };
      none = c.in_ok-commit_if_cheaper.ensures.none;
      cost = c.in_ok-commit_if_cheaper.ensures.cost c.if-branch.true;
      resting = λ none. c.requires.tried.resting (sym c.place_predicted.ensures.sums ∙ c.in_ok-commit_if_cheaper.ensures.rest none);
    }

pub place_predicted-requires-2-clause-among : goal.place_predicted-requires-2-clause-among
place_predicted-requires-2-clause-among g c =
    let s = sought_of c.args.search.now c.args.rule.now.number in
    let m = c.args.self.now.state.mapping in
    let v = c.args.node in
    let old : c.place_of-old.result ≡ get_or m.places v no_place = c.place_of-old.ensures ∙ ap (λ (l : List Place). get_or l v no_place) c.as_slice.ensures in
    subst (λ (p : Place). Contains (get_or (choices s) v []) p) (sym old) (c.requires.tried.state.state.choice.among v no_place c.requires.within)

pub place_predicted-requires-2-clause-soft : goal.place_predicted-requires-2-clause-soft
place_predicted-requires-2-clause-soft g c =
    let x = c.args.search.now.mapper in
    let m = c.args.self.now.state.mapping in
    let v = c.args.node in
    let old : c.place_of-old.result ≡ get_or m.places v no_place = c.place_of-old.ensures ∙ ap (λ (l : List Place). get_or l v no_place) c.as_slice.ensures in
    let left : c.commit_if_cheaper.new.self.state.mapping ≡ placed_at m v c.args.place.now =
    mapping_is c.commit_if_cheaper.new.self.state.mapping (placed_at m v c.args.place.now)
    (c.in_ok-commit_if_cheaper.ensures.places ∙ ap (λ (y : Mapping). y.places) c.place_predicted.ensures.mapping)
    (c.in_ok-commit_if_cheaper.ensures.plugs c.if-branch.false ∙ ap (λ (y : Mapping). y.plugs) c.place_predicted.ensures.mapping) in
    c.soft.ensures ∙ sym (ap (soft x.lab.now x.wiring.now) ((λ j. placed_at (left j) v (old j)) ∙ moved_back m v c.args.place.now))

pub place_predicted-requires-2-clause-counted : goal.place_predicted-requires-2-clause-counted
place_predicted-requires-2-clause-counted g c =
    let w = c.args.search.now.mapper.wiring.now in
    let m = c.args.self.now.state.mapping in
    let v = c.args.node in
    let old : c.place_of-old.result ≡ get_or m.places v no_place = c.place_of-old.ensures ∙ ap (λ (l : List Place). get_or l v no_place) c.as_slice.ensures in
    c.counted.ensures ∙ ap (λ (p : Place). asked_index w (virt_at w v).asks p.1) (sym old)

pub returns-clause-same : goal.returns-clause-same
returns-clause-same g c = λ is.
    let m = c.args.self.now.state.mapping in
    let v = c.args.node in
    let old : c.place_of-old.result ≡ get_or m.places v no_place = c.place_of-old.ensures ∙ ap (λ (l : List Place). get_or l v no_place) c.as_slice.ensures in
    let left : c.commit_if_cheaper.new.self.state.mapping ≡ placed_at m v c.args.place.now =
    mapping_is c.commit_if_cheaper.new.self.state.mapping (placed_at m v c.args.place.now)
    (c.in_ok-commit_if_cheaper.ensures.places ∙ ap (λ (y : Mapping). y.places) c.place_predicted.ensures.mapping)
    (c.in_ok-commit_if_cheaper.ensures.plugs c.if-branch.false ∙ ap (λ (y : Mapping). y.plugs) c.place_predicted.ensures.mapping) in
    c.place_predicted-2.ensures.mapping ∙ (λ j. placed_at (left j) v (old j)) ∙ moved_back m v c.args.place.now

pub returns-clause-tried : goal.returns-clause-tried
returns-clause-tried g c =
    let x = c.args.search.now in
    let s = sought_of c.args.search.now c.args.rule.now.number in
    let m = c.args.self.now.state.mapping in
    let v = c.args.node in
    let old : c.place_of-old.result ≡ get_or m.places v no_place = c.place_of-old.ensures ∙ ap (λ (l : List Place). get_or l v no_place) c.as_slice.ensures in
    let left : c.commit_if_cheaper.new.self.state.mapping ≡ placed_at m v c.args.place.now =
    mapping_is c.commit_if_cheaper.new.self.state.mapping (placed_at m v c.args.place.now)
    (c.in_ok-commit_if_cheaper.ensures.places ∙ ap (λ (y : Mapping). y.places) c.place_predicted.ensures.mapping)
    (c.in_ok-commit_if_cheaper.ensures.plugs c.if-branch.false ∙ ap (λ (y : Mapping). y.plugs) c.place_predicted.ensures.mapping) in
    let same : c.place_predicted-2.new.self.mapping ≡ m = c.place_predicted-2.ensures.mapping ∙ (λ j. placed_at (left j) v (old j)) ∙ moved_back m v c.args.place.now in
    record {
      state = record {
        state = c.place_predicted-2.ensures.state;
        mapped = subst (λ (y : Mapping). node_map x.mapper.lab.now x.mapper.free.now x.mapper.wiring.now y.places ≡ Some y) (sym same) c.requires.tried.state.mapped;
      };
      none = c.place_predicted-2.ensures.back ∙ c.in_ok-commit_if_cheaper.ensures.none;
      cost = c.in_ok-commit_if_cheaper.ensures.same_cost c.if-branch.false ∙ c.requires.tried.cost ∙ ap (price s) (sym same);
      resting = λ none. c.requires.tried.resting (sym c.place_predicted.ensures.sums ∙ c.in_ok-commit_if_cheaper.ensures.rest (sym c.place_predicted-2.ensures.sums ∙ none));
    }

pub returns-clause-over : goal.returns-clause-over
returns-clause-over g c = λ is other found.
    let x = c.args.search.now in
    let m = c.args.self.now.state.mapping in
    let v = c.args.node in
    let choice = c.requires.tried.state.state.choice in
    let lt : v < length m.places = omega (arith, c.requires.within, choice.one_each) in
    let from = ap (λ (p : Place). p.0.0) (c.place_of-old.ensures ∙ ap (λ (l : List Place). get_or l v no_place) c.as_slice.ensures) in
    let was = was_moved x c.args.self.now.state c.place_predicted.new.self.mapping v c.args.place.now c.place_of-old.result.0.0 c.requires.tried.state lt c.place_predicted.ensures.mapping from in
    c.in_ok-commit_if_cheaper.ensures.over c.if-branch.false m.places was other (ap (λ (y : Mapping). node_map x.mapper.lab.now x.mapper.free.now x.mapper.wiring.now y.places) c.place_predicted.ensures.mapping ∙ found)

pub returns-clause-ruled_out : goal.returns-clause-ruled_out
returns-clause-ruled_out g c = λ is yes.
    let x = c.args.search.now in
    let s = sought_of c.args.search.now c.args.rule.now.number in
    let m = c.args.self.now.state.mapping in
    let v = c.args.node in
    let choice = c.requires.tried.state.state.choice in
    let lt : v < length m.places = omega (arith, c.requires.within, choice.one_each) in
    let from = ap (λ (p : Place). p.0.0) (c.place_of-old.ensures ∙ ap (λ (l : List Place). get_or l v no_place) c.as_slice.ensures) in
    let was = was_moved x c.args.self.now.state c.place_predicted.new.self.mapping v c.args.place.now c.place_of-old.result.0.0 c.requires.tried.state lt c.place_predicted.ensures.mapping from in
    subst (λ (y : Mapping). IsNoLess s c.args.below y.places) c.place_predicted.ensures.mapping (c.in_ok-commit_if_cheaper.ensures.ruled_out c.if-branch.false yes m.places was)

pub returns-then-from-below-clause-over : goal.returns-then-from-below-clause-over
returns-then-from-below-clause-over g c = λ is m found.
    let s = sought_of c.args.search.now c.args.rule.now.number in
    let places = set c.args.self.now.state.mapping.places c.args.node c.args.place.now in
    map_over s c.args.below places m (λ plugs given.
    (let least = c.least_of-least.ensures.least c.args.rule.now.number plugs given in omega (arith, c.if-from-below.true, c.from.ensures, c.ask_parts.ensures, least))) found

pub returns-then-from-below-clause-ruled_out : goal.returns-then-from-below-clause-ruled_out
returns-then-from-below-clause-ruled_out g c = λ is yes plugs kept.
    let least = c.least_of-least.ensures.least c.args.rule.now.number plugs kept.given in
    omega (arith, c.if-from-below.true, c.from.ensures, c.ask_parts.ensures, least)

pub place_of-old-requires : goal.place_of-old-requires
place_of-old-requires g c =
    let choice = c.requires.tried.state.state.choice in
    omega (arith, c.requires.within, choice.one_each, ap length c.as_slice.ensures)
