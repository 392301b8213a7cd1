use Rattle.std.proofs.Common.{◌≡◌, ◌<◌, ◌∙◌, ℕ, List, length, get_or, ap, sym, subst, arith}
use Rattle.std.proofs.lemmas.List.{get_or_default, get_or_read}
use Rattle.lab_model.specs.Shapes.{Place}
use Rattle.lab_model.specs.Rules.{no_place}
use Rattle.map_state.specs.declared.state.MapState.{MapState}
use Rattle.map_state.specs.declared.search.Search.{Search}
use Rattle.map_state.specs.Hosted.{hosted_at}
use Rattle.map_state.specs.States.{IsMapState}
use Rattle.map_state.proofs.state.MapState.can_predict.Goals as goal

-- how many virtual nodes are read as hosted on the node of a virtual node, and of another node
guests_here : (x : Search) (b : MapState) (places : List Place) (v count : ℕ) (d : Place) → IsMapState x b → v < length x.mapper.wiring.now.nodes → places ≡ b.mapping.places
    → count ≡ get_or b.hosting.hosted.items (get_or places v d).0.0 count → count ≡ hosted_at b.mapping.places (get_or b.mapping.places v no_place).0.0
guests_here x b places v count d laid virt is read =
    let m = b.mapping in
    let n = (get_or m.places v no_place).0.0 in
    let hosted = b.hosting.hosted.items in
    let all = laid.shaped.places in
    let lt : v < length m.places = omega (arith, virt, all) in
    let node = laid.shaped.in_nodes v no_place lt in
    let each = laid.hosting.one_each in
    let at : ◌≡◌ {A = ℕ} (get_or places v d).0.0 n = ap (λ (l : List Place). (get_or l v d).0.0) is ∙ ap (λ (q : Place). q.0.0) (get_or_default m.places v d no_place lt) in
    read ∙ ap (λ (k : ℕ). get_or hosted k count) at ∙ get_or_default hosted n count 0 (omega (arith, node, each)) ∙ laid.hosting.hosted n node

guests_there : (x : Search) (b : MapState) (n count : ℕ) → IsMapState x b → n < length x.mapper.lab.now.nodes → count ≡ get_or b.hosting.hosted.items n count → count ≡ hosted_at b.mapping.places n
guests_there x b n count laid node read =
    let each = laid.hosting.one_each in
    get_or_read b.hosting.hosted.items n count (omega (arith, node, each)) read 0 ∙ laid.hosting.hosted n node

pub returns-then-index-ne1 : goal.returns-then-index-ne1
returns-then-index-ne1 c = (
  λ is. absurd (cc is),
  λ lone. absurd (c.if-index-ne1.true
      (guests_here c.args.search.now c.args.self.now c.as_slice.result.now c.args.virt c.index.result.now c.index-as_slice-virt.result c.requires.state c.requires.virt c.as_slice.ensures c.index.ensures ∙ lone.alone)),
)

pub are_own_in_order-requires-clause-virt : goal.are_own_in_order-requires-clause-virt
are_own_in_order-requires-clause-virt c = c.requires.virt

pub returns : goal.returns
returns c =
    let x = c.args.search.now in
    let b = c.args.self.now in
    let n = c.args.place.now.0.0 in
    let here = guests_here x b c.as_slice.result.now c.args.virt c.index.result.now c.index-as_slice-virt.result c.requires.state c.requires.virt c.as_slice.ensures c.index.ensures in
    let there = guests_there x b n c.index-2.result.now c.requires.state c.requires.node c.index-2.ensures in (
      λ is. record { alone = sym here ∙ c.if-index-ne1.false; empty = sym there ∙ c.if-index-ne0.false; in_order = sym c.are_own_in_order.ensures ∙ is },
      λ lone. c.are_own_in_order.ensures ∙ lone.in_order,
    )

pub index-requires : goal.index-requires
index-requires c =
    let laid = c.requires.state in
    let m = c.args.self.now.mapping in
    let v = c.args.virt in
    let d : Place = c.index-as_slice-virt.result in
    let all = laid.shaped.places in
    let lt : v < length m.places = (let virt = c.requires.virt in omega (arith, virt, all)) in
    let node = subst (λ (l : List Place). (get_or l v d).0.0 < length c.args.search.now.mapper.lab.now.nodes) (sym c.as_slice.ensures) (laid.shaped.in_nodes v d lt) in
    let each = laid.hosting.one_each in
    omega (arith, node, each)

pub index-requires-2 : goal.index-requires-2
index-requires-2 c =
    let node = c.requires.node in
    let each = c.requires.state.hosting.one_each in
    omega (arith, node, each)

pub returns-then-index-ne0 : goal.returns-then-index-ne0
returns-then-index-ne0 c = (
  λ is. absurd (cc is),
  λ lone. absurd (c.if-index-ne0.true
      (guests_there c.args.search.now c.args.self.now c.args.place.now.0.0 c.index-2.result.now c.requires.state c.requires.node c.index-2.ensures ∙ lone.empty)),
)
