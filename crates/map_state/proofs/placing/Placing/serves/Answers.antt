use Rattle.std.proofs.Common.{◌≡◌, ◌<◌, ◌∙◌, ℕ, List, length, map, get_or, filter, Bool, true, false, cond, Option, Some, None, All, refl, ap, sym, subst, arith}
use Rattle.std.specs.Prelude.{is_some}
use Rattle.lab_base.specs.declared.ids.IfaceId.{IfaceId}
use Rattle.lab_model.specs.Shapes.{Place}
use Rattle.node_maps.specs.declared.ends.End.{End}
use Rattle.node_maps.specs.Indexed.{ifaces_of, are_in_order}
use Rattle.node_maps.specs.NodeMaps.{plugs_from}
use Rattle.map_state.specs.declared.placing.Placing.{Placing}
use Rattle.map_state.specs.declared.search.Search.{Search}
use Rattle.map_state.specs.Nodes.{is_host, numbers_of, no_end}
use Rattle.map_state.specs.Placings.{IsTrying}
use Rattle.map_state.proofs.StateLaws.{numbers_in, listed_given, listed_ordered}
use Rattle.map_state.proofs.Served.{is_placed_on, fits_now, served_in_order}
use Rattle.map_state.proofs.WhereLaws.{numbered_ends}
use Rattle.std.proofs.lemmas.List.{length_push, length-map}
use Rattle.map_state.proofs.placing.Placing.serves.Goals as goal

-- the ends on the node of the place
abbrev on_node : Placing → Place → End → Bool
on_node x p e = is_placed_on x.places.items p.0.0 e

-- the ends that are listed are those
listed_are : (x : Search) (p : Place) (self : Placing) (hosts listed : List ℕ) → IsTrying x p self → hosts ≡ self.hosts.items → listed ≡ numbers_of 0 (is_host hosts p.0.0) x.mapper.ends.now
    → listed ≡ numbers_of 0 (on_node self p) x.mapper.ends.now
listed_are x p self hosts listed t same is = is ∙ ap (λ (hs : List ℕ). numbers_of 0 (is_host hs p.0.0) x.mapper.ends.now) (same ∙ t.hosts)

given_some : (b : Bool) (plugs : List IfaceId) → is_some (cond b (Some plugs) None) ≡ b
given_some true plugs = refl
given_some false plugs = refl

pub are_in_order-requires : goal.are_in_order-requires
are_in_order-requires c =
    let es = c.args.search.now.mapper.ends.now in
    let own = listed_are c.args.search.now c.args.place.now c.args.self.now c.deref.result.now c.list_ends.new.listed.items c.requires.trying c.deref.ensures.value c.in_ok-list_ends.ensures in
    subst (λ (l : List ℕ). All (λ (k : ℕ). k < length es) l) (sym (c.deref-2.ensures.value ∙ own)) (numbers_in (on_node c.args.self.now c.args.place.now) es)

pub serve_listed-requires-clause-within : goal.serve_listed-requires-clause-within
serve_listed-requires-clause-within c =
    let es = c.args.search.now.mapper.ends.now in
    let own = listed_are c.args.search.now c.args.place.now c.args.self.now c.deref.result.now c.list_ends.new.listed.items c.requires.trying c.deref.ensures.value c.in_ok-list_ends.ensures in
    subst (λ (l : List ℕ). All (λ (k : ℕ). k < length es) l) (sym (c.deref-4.ensures.value ∙ own)) (numbers_in (on_node c.args.self.now c.args.place.now) es)

pub serve_listed-requires-clause-ordered : goal.serve_listed-requires-clause-ordered
serve_listed-requires-clause-ordered c =
    let own = listed_are c.args.search.now c.args.place.now c.args.self.now c.deref.result.now c.list_ends.new.listed.items c.requires.trying c.deref.ensures.value c.in_ok-list_ends.ensures in
    listed_ordered c.args.search.now (on_node c.args.self.now c.args.place.now) c.deref-4.result.now c.requires.search (c.deref-4.ensures.value ∙ own)

pub returns-then-are_in_order-clause-served : goal.returns-then-are_in_order-clause-served
returns-then-are_in_order-clause-served c =
    let x = c.args.search.now.mapper in
    let es = x.ends.now in
    let p = c.args.place.now in
    let places = c.args.self.now.places.items in
    let on = on_node c.args.self.now p in
    let t = c.requires.trying in
    let own = listed_are c.args.search.now p c.args.self.now c.deref.result.now c.list_ends.new.listed.items t c.deref.ensures.value c.in_ok-list_ends.ensures in
    let ends : ◌≡◌ {A = List End} (map (λ k. get_or es k no_end) c.deref-2.result.now) (filter on es) =
    ap (λ (l : List ℕ). map (λ k. get_or es k no_end) l) (c.deref-2.ensures.value ∙ own) ∙ numbered_ends es on no_end in
    let ifaces : c.of.result.now ≡ ifaces_of 0 x.lab.now.ifaces p.0.0 = c.of.ensures ∙ c.requires.search.mapper.ifaces.each p.0.0 in
    let ordered : are_in_order (filter on es) (ifaces_of 0 x.lab.now.ifaces p.0.0) ≡ true = (λ j. are_in_order (sym ends j) (sym ifaces j)) ∙ sym c.are_in_order.ensures ∙ c.if-are_in_order.true in
    sym (served_in_order x.lab.now places p.0.0 es ordered) ∙ fits_now x.lab.now x.wiring.now t.earlier places p es t.places c.requires.search.mapper.ends t.served

pub returns-clause-served : goal.returns-clause-served
returns-clause-served c =
    let x = c.args.search.now.mapper in
    let es = x.ends.now in
    let p = c.args.place.now in
    let places = c.args.self.now.places.items in
    let on = on_node c.args.self.now p in
    let t = c.requires.trying in
    let yes = c.in_ok-yes.yes in
    let plugs = c.serve_listed.new.given.plugs in
    let own = listed_are c.args.search.now p c.args.self.now c.deref.result.now c.list_ends.new.listed.items t c.deref.ensures.value c.in_ok-list_ends.ensures in
    let given = listed_given c.args.search.now places on c.deref-4.result.now (cond yes (Some plugs) None) (c.deref-4.ensures.value ∙ own)
    (ap (λ (ps : List Place). plugs_from x.lab.now ps (map (λ k. get_or es k no_end) c.deref-4.result.now)) (sym c.deref-3.ensures.value) ∙ c.in_ok-yes.ensures.given) in
    sym (given_some yes plugs) ∙ ap (λ (o : Option (List IfaceId)). is_some o) (sym given)
    ∙ fits_now x.lab.now x.wiring.now t.earlier places p es t.places c.requires.search.mapper.ends t.served

pub serve_listed-requires-clause-idle : goal.serve_listed-requires-clause-idle
serve_listed-requires-clause-idle c = c.requires.trying.idle

pub returns-then-are_in_order-clause-idle : goal.returns-then-are_in_order-clause-idle
returns-then-are_in_order-clause-idle c = c.requires.trying.idle

pub list_ends-requires-clause-hosts : goal.list_ends-requires-clause-hosts
list_ends-requires-clause-hosts c =
    let t = c.requires.trying in
    let count = ap length c.deref.ensures.value ∙ ap length t.hosts ∙ length-map c.args.self.now.places.items (λ (q : Place). q.0.0) ∙ ap length t.places ∙ length_push t.earlier c.args.place.now in
    omega (arith, count, t.more)

pub returns-clause-idle : goal.returns-clause-idle
returns-clause-idle c = record { marks = c.clear.ensures c.in_ok-yes.ensures.giving.had c.in_ok-yes.ensures.giving.marks }
