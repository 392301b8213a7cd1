use Rattle.std.proofs.Common.{◌≡◌, ◌<◌, ◌≤◌, ◌-◌, ◌∙◌, ℕ, List, length, get_or, Bool, cond, eqb, ap, sym, refl, arith, true, subst}
use Rattle.std.proofs.lemmas.Bool.{eq-eqb, le-leb, leb-true}
use Rattle.std.proofs.lemmas.List.{get_or_default}
use Rattle.lab_model.specs.Shapes.{Place, node_at, has_name}
use Rattle.lab_model.specs.Rules.{no_place, number_of}
use Rattle.map_state.specs.Hosted.{hosted_at}
use Rattle.map_state.proofs.FullLaws.{overfull_no_map}
use Rattle.map_state.proofs.HostingLaws.{guest_left}
use Rattle.map_state.proofs.state.MapState.is_overfull.Goals as goal

-- a virtual node is on its own node
one_there : (places : List Place) (v : ℕ) → v < length places → 1 ≤ hosted_at places (get_or places v no_place).0.0
one_there places v lt =
    let n = (get_or places v no_place).0.0 in
    let count = guest_left places v n lt in
    let own : ◌≡◌ {A = ℕ} (cond (eqb n n) 1 0) 1 = ap (λ (b : Bool). cond b 1 0) (eq-eqb n n refl) in
    omega (arith, count, own)

pub overflow_sub-index : goal.overflow_sub-index
overflow_sub-index c =
    let laid = c.requires.state in
    let m = c.args.self.now.mapping in
    let v = c.args.virt in
    let all = laid.shaped.places in
    let lt : v < length m.places = omega (arith, c.requires.virt, all) in
    let p : Place = c.index-as_slice-virt.result in
    let q : Place = get_or m.places v no_place in
    let place : p ≡ q = c.index-as_slice-virt.is ∙ ap (λ (l : List Place). get_or l v p) c.as_slice.ensures ∙ get_or_default m.places v p no_place lt in
    let node = laid.shaped.in_nodes v no_place lt in
    let at : ◌≡◌ {A = ℕ} p.0.0 q.0.0 = ap (λ (y : Place). y.0.0) place in
    let hosted = c.args.self.now.hosting.hosted.items in
    let each = laid.hosting.one_each in
    let here : ◌≡◌ {A = ℕ} c.index.result.now (hosted_at m.places q.0.0) =
    c.index.ensures ∙ get_or_default hosted p.0.0 c.index.result.now 0 (omega (arith, node, at, each)) ∙ ap (λ (k : ℕ). get_or hosted k 0) at ∙ laid.hosting.hosted q.0.0 node in
    let one = one_there m.places v lt in
    omega (arith, here, one)

pub returns-clause-overfull : goal.returns-clause-overfull
returns-clause-overfull c =
    let lab = c.args.search.now.mapper.lab.now in
    let laid = c.requires.state in
    let m = c.args.self.now.mapping in
    let v = c.args.virt in
    let all = laid.shaped.places in
    let lt : v < length m.places = omega (arith, c.requires.virt, all) in
    let p : Place = c.index-as_slice-virt.result in
    let q : Place = get_or m.places v no_place in
    let place : p ≡ q = c.index-as_slice-virt.is ∙ ap (λ (l : List Place). get_or l v p) c.as_slice.ensures ∙ get_or_default m.places v p no_place lt in
    let node = laid.shaped.in_nodes v no_place lt in
    let at : ◌≡◌ {A = ℕ} p.0.0 q.0.0 = ap (λ (y : Place). y.0.0) place in
    let hosted = c.args.self.now.hosting.hosted.items in
    let each = laid.hosting.one_each in
    let here : ◌≡◌ {A = ℕ} c.index.result.now (hosted_at m.places q.0.0) =
    c.index.ensures ∙ get_or_default hosted p.0.0 c.index.result.now 0 (omega (arith, node, at, each)) ∙ ap (λ (k : ℕ). get_or hosted k 0) at ∙ laid.hosting.hosted q.0.0 node in
    let one = one_there m.places v lt in
    let most = number_of (node_at lab p.0).types p.1 in
    let same : ◌≡◌ {A = ℕ} most (number_of (node_at lab q.0).types q.1) = ap (λ (y : Place). number_of (node_at lab y.0).types y.1) place in (
      λ is. (let few = leb-true most (c.index.result.now - 1) (sym c.is_taken.ensures ∙ is) in omega (arith, few, same, here, one)),
      λ more. c.is_taken.ensures ∙ le-leb most (c.index.result.now - 1) (omega (arith, more, same, here, one)),
    )

pub returns-clause-none : goal.returns-clause-none
returns-clause-none c = λ is.
    let x = c.args.search.now.mapper in
    let laid = c.requires.state in
    let v = c.args.virt in
    let all = laid.shaped.places in
    overfull_no_map x.lab.now x.free.now x.wiring.now c.args.self.now.mapping v laid.shaped (omega (arith, c.requires.virt, all)) ((returns-clause-overfull c).0 is)

pub index-requires : goal.index-requires
index-requires c =
    let laid = c.requires.state in
    let m = c.args.self.now.mapping in
    let v = c.args.virt in
    let all = laid.shaped.places in
    let lt : v < length m.places = omega (arith, c.requires.virt, all) in
    let p : Place = c.index-as_slice-virt.result in
    let place : p ≡ get_or m.places v p = c.index-as_slice-virt.is ∙ ap (λ (l : List Place). get_or l v p) c.as_slice.ensures in
    let node = subst (λ (y : Place). y.0.0 < length c.args.search.now.mapper.lab.now.nodes) (sym place) (laid.shaped.in_nodes v p lt) in
    let each = laid.hosting.one_each in
    omega (arith, node, each)

pub is_taken-requires-clause-node : goal.is_taken-requires-clause-node
is_taken-requires-clause-node c =
    let laid = c.requires.state in
    let m = c.args.self.now.mapping in
    let v = c.args.virt in
    let all = laid.shaped.places in
    let lt : v < length m.places = omega (arith, c.requires.virt, all) in
    let p : Place = c.index-as_slice-virt.result in
    let place : p ≡ get_or m.places v p = c.index-as_slice-virt.is ∙ ap (λ (l : List Place). get_or l v p) c.as_slice.ensures in
    subst (λ (y : Place). y.0.0 < length c.args.search.now.mapper.lab.now.nodes) (sym place) (laid.shaped.in_nodes v p lt)

pub is_taken-requires-clause-typed : goal.is_taken-requires-clause-typed
is_taken-requires-clause-typed c =
    let laid = c.requires.state in
    let m = c.args.self.now.mapping in
    let v = c.args.virt in
    let all = laid.shaped.places in
    let lt : v < length m.places = omega (arith, c.requires.virt, all) in
    let p : Place = c.index-as_slice-virt.result in
    let place : p ≡ get_or m.places v p = c.index-as_slice-virt.is ∙ ap (λ (l : List Place). get_or l v p) c.as_slice.ensures in
    subst (λ (y : Place). has_name (node_at c.args.search.now.mapper.lab.now y.0).types y.1 ≡ true) (sym place) (laid.shaped.of_node v p lt)
