use Rattle.std.proofs.Common.{◌≡◌, ◌<◌, ◌≤◌, ℕ, All, List, [], length, get_or, sym, ap, subst, ◌∙◌, arith}
use Rattle.std.proofs.lemmas.List.{length-replicate, length-set, take_all}
use Rattle.phys_lab.specs.declared.parts.Iface.{Iface}
use Rattle.phys_lab.specs.declared.parts.Node.{Node}
use Rattle.lab_seen.proofs.Plugged.{begun, by_names, one_seen, plugs_at}
use Rattle.lab_seen.proofs.plugs.plugs_by_node.Goals as goal

abbrev none : List ℕ
none = []

pub loop-iface-init : goal.loop-iface-init
loop-iface-init c =
    let many : length c.nodes.result.now ≡ length c.args.lab.now.nodes = ap (λ (l : List Node). length l) c.nodes.ensures in
    record {
      nodes = ap (λ (l : List (List ℕ)). length l) c.in_ok-lists.ensures ∙ length-replicate (length c.nodes.result.now) none ∙ many;
      each = λ n lt. ap (λ (l : List (List ℕ)). get_or l n []) c.in_ok-lists.ensures ∙ begun (length c.nodes.result.now) n (omega (arith, lt, many));
    }

pub add_plug-requires : goal.add_plug-requires
add_plug-requires c =
    let On : Iface → Type 0 = λ x. x.node.0 < length c.args.lab.now.nodes in
    let all : All On c.ifaces-iface-items.result.now = subst (λ (l : List Iface). All On l) (sym c.ifaces-iface-items.ensures.list) c.ifaces-iface-items.ensures.linked.nodes in
    let here : On c.iface-item.result = subst On (sym c.iface-item.is) (all c.loop-iface.iface-index c.iface-item.result c.loop-iface-test.true) in
    omega (arith, here, c.loop-iface.invariant.nodes)

pub loop-iface-preserved : goal.loop-iface-preserved
loop-iface-preserved c =
    let On : Iface → Type 0 = λ x. x.node.0 < length c.args.lab.now.nodes in
    let all : All On c.ifaces-iface-items.result.now = subst (λ (l : List Iface). All On l) (sym c.ifaces-iface-items.ensures.list) c.ifaces-iface-items.ensures.linked.nodes in
    let i = c.loop-iface.iface-index in
    let here : On c.iface-item.result = subst On (sym c.iface-item.is) (all i c.iface-item.result c.loop-iface-test.true) in
    record {
      nodes = ap (λ (l : List (List ℕ)). length l) c.in_ok-add_plug.ensures ∙ length-set c.loop-iface.lists.items _ _ ∙ c.loop-iface.invariant.nodes;
      each = one_seen c.args.lab.now.ifaces c.ifaces-iface-items.result.now c.ifaces-iface-items.ensures.list (length c.args.lab.now.nodes) i c.iface-item.result c.loop-iface.lists.items _ c.loop-iface-test.true
          c.iface-item.is here c.loop-iface.invariant.nodes c.in_ok-add_plug.ensures c.loop-iface.invariant.each;
    }

pub returns : goal.returns
returns c =
    let lab = c.args.lab.now in
    let i = c.loop-iface.iface-index in
    let past : length lab.ifaces ≤ i = omega (arith, c.loop-iface-test.false, ap (λ (l : List Iface). length l) c.ifaces-iface-items.ensures.list) in
    c.from_vec.ensures
    ∙ by_names lab c.range-kept.ensures.lab c.loop-iface.lists.items c.loop-iface.invariant.nodes (λ n lt. c.loop-iface.invariant.each n lt ∙ ap (λ (l : List Iface). plugs_at l n) (take_all i lab.ifaces past))
