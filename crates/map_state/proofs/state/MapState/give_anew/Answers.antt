use Rattle.std.proofs.Common.{◌≡◌, ◌∙◌, ◌++◌, List, ap, sym, subst}
use Rattle.virt_topo.specs.declared.mapping.Mapping.{Mapping}
use Rattle.trunk_sums.specs.declared.made.Change.{Change}
use Rattle.trunk_sums.specs.Remade.{AreChanges}
use Rattle.node_maps.specs.declared.ends.End.{End}
use Rattle.node_maps.specs.NodeMaps.{plugs_from}
use Rattle.node_maps.proofs.MovedLaws.{no_plugs}
use Rattle.map_state.specs.Nodes.{is_on, numbers_of, changes_of}
use Rattle.map_state.specs.Chosen.{IsServed}
use Rattle.map_state.proofs.StateLaws.{placed_ends, own_changes}
use Rattle.map_state.proofs.GivenAnew.{none_given}
use Rattle.map_state.proofs.ServedLaws.{Gives, given_to, served_here, served_others, remade_to}
use Rattle.map_state.proofs.state.MapState.give_anew.Goals as goal

pub adopt-requires-clause-changes : goal.adopt-requires-clause-changes
adopt-requires-clause-changes c =
    let x = c.args.search.now in
    let places = c.args.self.now.mapping.places in
    let noted = c.in_ok-yes.ensures.given c.if-not-yes.false in
    let own = own_changes x places c.args.node.0 noted.plugs c.requires.search c.requires.state.shaped.places noted.given in
    let rows = changes_of x.table.now.rows.items (numbers_of 0 (is_on places c.args.node.0) x.mapper.ends.now) noted.plugs in
    subst (λ (l : List Change). AreChanges x.mapper.lab.now x.mapper.wiring.now l) (sym (noted.noted ∙ ap (λ (l : List Change). l ++ rows) c.clear.ensures.items)) own

pub returns-then-not-yes-clause-none : goal.returns-then-not-yes-clause-none
returns-then-not-yes-clause-none c = λ is.
    let x = c.args.search.now in
    let places = c.args.self.now.mapping.places in
    sym (no_plugs x.mapper.lab.now x.mapper.free.now x.mapper.wiring.now places
    (ap (λ (l : List End). plugs_from x.mapper.lab.now places l) (sym c.requires.search.mapper.ends)
    ∙ none_given x.mapper.lab.now places x.mapper.ends.now c.args.node.0 (placed_ends x places c.requires.search c.requires.state.shaped.places) (c.in_ok-yes.ensures.none c.if-not-yes.true)))

pub returns-clause-served : goal.returns-clause-served
returns-clause-served c = λ is shares.
    let x = c.args.search.now in
    let m = c.args.self.now.mapping in
    let n = c.args.node.0 in
    let noted = c.in_ok-yes.ensures.given c.if-not-yes.false in
    let gives : Gives x m n noted.plugs = record { set = c.requires.search; shaped = c.requires.state.shaped; given = noted.given } in
    let rows = changes_of x.table.now.rows.items (numbers_of 0 (is_on m.places n) x.mapper.ends.now) noted.plugs in
    let changes : c.give.new.changes.items ≡ rows = noted.noted ∙ ap (λ (l : List Change). l ++ rows) c.clear.ensures.items in
    let same : c.adopt.new.self.mapping ≡ given_to x m n noted.plugs = (λ j. record { places = c.adopt.ensures.places j; plugs = (c.adopt.ensures.plugs ∙ remade_to x m n noted.plugs c.give.new.changes.items gives changes) j }) in
    subst (λ (y : Mapping). IsServed x y n) (sym same) (served_here x m n noted.plugs gives shares)

pub returns-clause-others : goal.returns-clause-others
returns-clause-others c = λ is k ne served.
    let x = c.args.search.now in
    let m = c.args.self.now.mapping in
    let n = c.args.node.0 in
    let noted = c.in_ok-yes.ensures.given c.if-not-yes.false in
    let gives : Gives x m n noted.plugs = record { set = c.requires.search; shaped = c.requires.state.shaped; given = noted.given } in
    let rows = changes_of x.table.now.rows.items (numbers_of 0 (is_on m.places n) x.mapper.ends.now) noted.plugs in
    let changes : c.give.new.changes.items ≡ rows = noted.noted ∙ ap (λ (l : List Change). l ++ rows) c.clear.ensures.items in
    let same : c.adopt.new.self.mapping ≡ given_to x m n noted.plugs = (λ j. record { places = c.adopt.ensures.places j; plugs = (c.adopt.ensures.plugs ∙ remade_to x m n noted.plugs c.give.new.changes.items gives changes) j }) in
    subst (λ (y : Mapping). IsServed x y k) (sym same) (served_others x m n k noted.plugs ne served)
