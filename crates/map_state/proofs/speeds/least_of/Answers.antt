use Rattle.std.proofs.Common.{◌≡◌, ◌<◌, ◌≤◌, ◌∙◌, inl, inr, ℕ, List, All, length, get_or, ap, sym, subst, arith}
use Rattle.std.proofs.lemmas.Bool.{cases_eq}
use Rattle.std.proofs.lemmas.List.{get_or_default}
use Rattle.phys_lab.specs.declared.parts.Iface.{Iface}
use Rattle.map_state.proofs.speeds.least_of.Goals as goal

pub lower-requires : goal.lower-requires
lower-requires c =
    let y = c.iface-item.result in
    let On : Iface → Type 0 = λ x. x.node.0 < length c.args.lab.now.nodes in
    let all : All On c.ifaces-ifaces.result.now = subst (λ l. All On l) (sym c.ifaces-ifaces.ensures.list) c.ifaces-ifaces.ensures.linked.nodes in
    let here : On y = subst On (sym c.iface-item.is) (all c.loop-iface.iface-index y c.loop-iface-test.true) in
    omega (arith, here, c.loop-iface.invariant.one_each)

pub loop-iface-preserved : goal.loop-iface-preserved
loop-iface-preserved c =
    let ifaces = c.args.lab.now.ifaces in
    let n = c.loop-iface.iface-index in
    let y = c.iface-item.result in
    let before = c.loop-iface.invariant in
    let list = c.ifaces-ifaces.ensures.list in
    let many = ap length list in
    let lt : n < length ifaces = omega (arith, c.loop-iface-test.true, many) in
    let is : y ≡ get_or ifaces n y = c.iface-item.is ∙ ap (λ (l : List Iface). get_or l n y) list in
    record {
      one_each = c.lower.ensures.one_each ∙ before.one_each;
      each = λ k d k_lt. elim (cases_eq k n) [
        | inl same ↦
            let at : get_or ifaces k d ≡ y = ap (λ (j : ℕ). get_or ifaces j d) same ∙ get_or_default ifaces n d y lt ∙ sym is in
            subst (λ (x : Iface). get_or c.lower.new.speeds.items x.node.0 0 ≤ x.kbps) (sym at) c.lower.ensures.here
        | inr apart ↦ (
            let old = before.each k d (omega (arith, k_lt, apart)) in
            let less = c.lower.ensures.others (get_or ifaces k d).node.0 in
            omega (arith, old, less))
      ];
      small = λ m m_lt. (let old = before.small m m_lt in let less = c.lower.ensures.others m in omega (arith, old, less));
    }
