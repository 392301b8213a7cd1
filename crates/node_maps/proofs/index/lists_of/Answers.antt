use Rattle.std.proofs.Common.{◌≡◌, ◌<◌, ◌∙◌, List, [], false, All, length, get_or, refl, ap, sym, subst, arith}
use Rattle.std.proofs.lemmas.Bool.{cond_both}
use Rattle.std.proofs.lemmas.List.{length-set}
use Rattle.phys_lab.specs.declared.parts.Iface.{Iface}
use Rattle.node_maps.specs.declared.index.NodeIface.{NodeIface}
use Rattle.phys_lab.proofs.IfaceCount.{few_ifaces}
use Rattle.node_maps.proofs.IndexLaws.{index_used}
use Rattle.node_maps.proofs.index.lists_of.Goals as goal

pub loop-iface-preserved : goal.loop-iface-preserved
loop-iface-preserved c =
    let lists = c.loop-iface.lists.items in
    let i = c.loop-iface.iface in
    let y = c.index-ifaces-iface.result in
    let On : Iface → Type 0 = λ x. x.node.0 < length c.args.lab.now.nodes in
    let all : All On c.ifaces-ifaces.result.now = subst (λ l. All On l) (sym c.ifaces-ifaces.ensures.list) c.ifaces-ifaces.ensures.linked.nodes in
    let here : On y = subst On (sym c.index-ifaces-iface.is) (all i y c.loop-iface-test.true) in
    let within : y.node.0 < length lists = omega (arith, here, c.loop-iface.invariant.nodes) in
    record {
      nodes = ap length c.in_ok-add_used.ensures
          ∙ cond_both (get_or c.args.used.now y.node.0 false) _ lists (λ (l : List (List NodeIface)). length l ≡ length lists) (λ yes. length-set lists y.node.0 _) (λ no. refl)
          ∙ c.loop-iface.invariant.nodes;
      each = λ node in_use. ap (λ l. get_or l node []) c.in_ok-add_used.ensures
          ∙ index_used c.args.used.now lists c.ifaces-ifaces.result.now i y node c.loop-iface-test.true c.index-ifaces-iface.is within in_use (c.loop-iface.invariant.each node in_use);
    }

pub overflow_cast-iface : goal.overflow_cast-iface
overflow_cast-iface c = omega (arith, few_ifaces c.args.lab.now c.range-kept.ensures.lab, ap length c.ifaces-ifaces.ensures.list)
