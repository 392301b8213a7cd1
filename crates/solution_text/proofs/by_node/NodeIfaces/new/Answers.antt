use Rattle.std.proofs.Common.{◌≡◌, ◌<◌, ◌+◌, ◌-◌, ℕ, All, List, length, get_or, sym, ap, subst, ◌∙◌, arith}
use Rattle.std.proofs.lemmas.List.{get_or_default, get_or_read, length-set}
use Rattle.phys_lab.specs.declared.parts.Iface.{Iface}
use Rattle.phys_lab.proofs.IfaceCount.{few_ifaces}
use Rattle.solution_text.specs.Names.{next_on}
use Rattle.solution_text.proofs.Listed.{first_more, next_more}
use Rattle.solution_text.proofs.by_node.NodeIfaces.new.Goals as goal

pub overflow_cast-ifaces : goal.overflow_cast-ifaces
overflow_cast-ifaces c = omega (arith, ap (λ (l : List Iface). length l) c.ifaces-ifaces.ensures.list, few_ifaces c.args.lab.now c.range-kept.ensures.lab)

pub overflow_cast-ifaces-2 : goal.overflow_cast-ifaces-2
overflow_cast-ifaces-2 c = omega (arith, ap (λ (l : List Iface). length l) c.ifaces-ifaces.ensures.list, few_ifaces c.args.lab.now c.range-kept.ensures.lab)

pub overflow_cast-number : goal.overflow_cast-number
overflow_cast-number c = omega (arith, ap (λ (l : List Iface). length l) c.ifaces-ifaces.ensures.list, few_ifaces c.args.lab.now c.range-kept.ensures.lab)

pub loop-number-preserved : goal.loop-number-preserved
loop-number-preserved c =
    let xs = c.ifaces-ifaces.result.now in
    let n = c.loop-number.number in
    let k : ℕ = n - 1 in
    let first = c.loop-number.first.items in
    let iface = get_or xs k c.index-ifaces-number.result in
    let before = c.loop-number.invariant in
    let lt : k < length xs = omega arith in
    let one : n ≡ k + 1 = omega arith in
    let own : iface ≡ get_or xs k iface = get_or_default xs k c.index-ifaces-number.result iface lt in
    let of_lab : iface.node.0 < length c.args.lab.now.nodes =
    subst (λ (l : List Iface). All (λ (i : Iface). i.node.0 < length c.args.lab.now.nodes) l) (sym c.ifaces-ifaces.ensures.list) c.ifaces-ifaces.ensures.linked.nodes k c.index-ifaces-number.result lt in
    let within : iface.node.0 < length first = subst (λ (m : ℕ). iface.node.0 < m) (sym before.nodes) of_lab in
    let now : c.index.result.now ≡ next_on xs iface.node.0 n = get_or_read first iface.node.0 c.index.result.now within c.index.ensures 0 ∙ before.first iface.node.0 within in
    let place : k < length c.loop-number.next.items = subst (λ (m : ℕ). k < m) (sym before.ifaces) lt in
    record {
      nodes = length-set first iface.node.0 k ∙ before.nodes;
      ifaces = length-set c.loop-number.next.items k c.index.result.now ∙ before.ifaces;
      first = λ node inside. first_more xs first k n iface one lt own within before.first node (subst (λ (m : ℕ). node < m) (length-set first iface.node.0 k) inside);
      next = next_more xs c.loop-number.next.items k n c.index.result.now iface one lt own place now before.next;
    }
