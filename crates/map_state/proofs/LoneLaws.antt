-- A virtual node that is alone goes to an empty node, where each of its ends fits the interface of its own place.
use Rattle.std.proofs.Common.{◌≡◌, ◌≢◌, ◌<◌, ◌∙◌, ◌++◌, [], ℕ, List, length, map, filter, get_or, Bool, true, ◌==◌, Some, Contains, refl, ap, sym, subst, arith, get_or-set_same}
use Rattle.std.proofs.Math.ListN.{set}
use Rattle.std.proofs.lemmas.Bool.{and_parts}
use Rattle.std.proofs.lemmas.List.{length-map, length-set, get_or-map, get_or_read}
use Rattle.std.proofs.lemmas.List.Elements.{All-contains, filter_passes}
use Rattle.phys_lab.specs.declared.free.Free.{Free}
use Rattle.phys_lab.specs.Labs.{Lab}
use Rattle.virt_topo.specs.declared.wiring.VirtNode.{VirtNode}
use Rattle.virt_topo.specs.declared.wiring.Wiring.{Wiring}
use Rattle.virt_topo.specs.Wirings.{virt_at, no_virt}
use Rattle.lab_model.specs.Shapes.{Place, node_at, has_name}
use Rattle.lab_model.specs.Rules.{no_place, is_asked, suits}
use Rattle.trunk_sums.specs.declared.made.Change.{Change}
use Rattle.trunk_sums.specs.Remade.{remade}
use Rattle.node_maps.specs.declared.ends.End.{End}
use Rattle.node_maps.specs.NodeMaps.{lab_places, is_candidate, candidates_of, candidates, IsChoice, plugs_of}
use Rattle.node_maps.specs.Indexed.{ifaces_of}
use Rattle.map_state.specs.declared.state.MapState.{MapState}
use Rattle.map_state.specs.declared.search.Search.{Search}
use Rattle.map_state.specs.Nodes.{is_on, numbers_of, changes_of}
use Rattle.map_state.specs.Tables.{IsSearch}
use Rattle.map_state.specs.Hosted.{hosted_at, placed_at}
use Rattle.map_state.specs.States.{IsFeasibleState, IsPlanned}
use Rattle.map_state.specs.Predicted.{CanPredict}
use Rattle.map_state.proofs.Alikes.{alike_moved}
use Rattle.map_state.proofs.StateLaws.{placed_ends, planned_plugs, none_on, own_on, shaped_at}
use Rattle.map_state.proofs.OrderedPlans.{noted_in_order, none_noted}
use Rattle.map_state.proofs.HostingLaws.{guest_more, guest_less}

-- a virtual node of a choice has a type that it asks for
pub asked_of : (lab : Lab) (free : Free) (w : Wiring) (places : List Place) (v : ℕ) → IsChoice (candidates lab free w) places → v < length w.nodes
    → is_asked w (virt_at w v).asks (get_or places v no_place).1 ≡ true
unfolding candidates
asked_of lab free w places v choice lt =
    let x = virt_at w v in
    let p = get_or places v no_place in
    let of : VirtNode → List Place = λ y. candidates_of lab free w y in
    let test : Place → Bool = λ q. is_candidate lab free w x q in
    let at : get_or (map of w.nodes) v [] ≡ filter test (lab_places lab) = get_or-map of w.nodes v no_virt [] lt in
    let within : v < length (map of w.nodes) = (let count = length-map w.nodes of in omega (arith, lt, count)) in
    let among : Contains (filter test (lab_places lab)) p = subst (λ (l : List Place). Contains l p) at (choice.among v no_place within) in
    let passes : test p ≡ true = All-contains (λ (q : Place). test q ≡ true) _ _ (filter_passes test (lab_places lab)) among in
    let may : suits w x (node_at lab p.0).features p.1 ≡ true = (and_parts _ _ (and_parts _ _ passes).1).0 in
    (and_parts _ _ may).0

-- the listed ends of a virtual node
pub own_listed : (x : Search) (v : ℕ) (listed own : List ℕ) → IsSearch x → v < length x.mapper.wiring.now.nodes → listed ≡ own → own ≡ get_or x.table.now.own.items v own
    → listed ≡ numbers_of 0 (λ e. e.node == v) x.mapper.ends.now
own_listed x v listed own is lt at read =
    let all = is.table.own.one_each in
    at ∙ get_or_read x.table.now.own.items v own (omega (arith, lt, all)) read []
    ∙ is.table.own.each v lt
    ∙ ap (λ (l : List End). numbers_of 0 (λ e. e.node == v) l) (sym is.mapper.ends)

-- each of its ends goes to the interface of its own place
abbrev pub lone_changes : Search → ℕ → Place → List Change
lone_changes x v p =
    changes_of x.table.now.rows.items (numbers_of 0 (λ e. e.node == v) x.mapper.ends.now) (map (λ y. y.id) (ifaces_of 0 x.mapper.lab.now.ifaces p.0.0))

-- these are what is planned for the ends on the two nodes, once it is there
pub lone_planned : (x : Search) (places : List Place) (v : ℕ) (p : Place) → IsSearch x → length places ≡ length x.mapper.wiring.now.nodes → v < length places → CanPredict x places v p
    → IsPlanned x (set places v p) p.0.0 (get_or places v no_place).0.0 (lone_changes x v p)
lone_planned x places v p is count lt lone =
    let es = x.mapper.ends.now in
    let rows = x.table.now.rows.items in
    let a = p.0.0 in
    let b = (get_or places v no_place).0.0 in
    let moved = set places v p in
    let changes = lone_changes x v p in
    let alone = lone.alone in
    let empty = lone.empty in
    let size = length-set places v p in
    let placed = placed_ends x moved is (size ∙ count) in
    let apart : b ≢ a = (λ e. (let same = ap (hosted_at places) e in absurd (omega (arith, same, alone, empty)))) in
    let here : (get_or moved v no_place).0.0 ≡ a = ap (λ (q : Place). q.0.0) (get_or-set_same places v p no_place lt) in
    let one : hosted_at moved a ≡ 1 = (let more = guest_more places v p lt apart in omega (arith, more, empty)) in
    let none : hosted_at moved b ≡ 0 = (let less = guest_less places v p lt apart in omega (arith, less, alone)) in
    let own : numbers_of 0 (λ e. e.node == v) es ≡ numbers_of 0 (is_on moved a) es = own_on a v moved es placed (omega (arith, lt, size)) here one in
    let there = noted_in_order x moved a (numbers_of 0 (λ e. e.node == v) es) (ifaces_of 0 x.mapper.lab.now.ifaces a) [] changes is (size ∙ count) own refl lone.in_order refl in
    let left = none_noted x moved b changes (none_on b moved es placed none) in
    record {
      one = there.plugs;
      other = left.plugs;
      first = there.given;
      second = left.given;
      noted = left.noted ∙ ap (λ (l : List Change). l ++ changes_of rows (numbers_of 0 (is_on moved b) es) left.plugs) there.noted;
    }

-- THE PLUGS OF THE RULE once it is there
pub lone_plugs : (x : Search) (b : MapState) (v : ℕ) (p : Place) → IsSearch x → IsFeasibleState x b → v < length b.mapping.places → p.0.0 < length x.mapper.lab.now.nodes
    → has_name (node_at x.mapper.lab.now p.0).types p.1 ≡ true → CanPredict x b.mapping.places v p
    → plugs_of x.mapper.lab.now x.mapper.wiring.now (set b.mapping.places v p) ≡ Some (remade b.mapping.plugs (lone_changes x v p))
lone_plugs x b v p is state lt node typed lone =
    let m = b.mapping in
    let laid = state.state in
    planned_plugs x (placed_at m v p) p.0.0 (get_or m.places v no_place).0.0 (lone_changes x v p) m.places is
    (shaped_at x.mapper.lab.now x.mapper.wiring.now m v p laid.shaped node typed) (lone_planned x m.places v p is laid.shaped.places lt lone)
    (record { mapped = state.mapped; choice = laid.choice; alike = alike_moved m.places v p lt })
