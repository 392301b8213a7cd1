use Rattle.std.proofs.Common.{◌≡◌, ◌<◌, ◌≤◌, ◌+◌, ◌-◌, ◌∙◌, ℕ, length, get_or, Bool, true, false, cond, eqb, refl, ap, sym, subst, arith}
use Rattle.std.proofs.lemmas.List.{get_or_default}
use Rattle.phys_lab.specs.Labs.{Lab}
use Rattle.virt_topo.specs.declared.wiring.Wiring.{Wiring}
use Rattle.virt_topo.specs.declared.mapping.Mapping.{Mapping}
use Rattle.lab_model.specs.Rules.{no_place}
use Rattle.cost_rule.proofs.PartLaws.{nodes_small}
use Rattle.map_state.specs.Hosted.{IsHosting, hosted_at}
use Rattle.map_state.specs.declared.hosting.Hosting.{Hosting}
use Rattle.map_state.proofs.HostingLaws.{used_apart, used_some, used_stays}
use Rattle.map_state.proofs.hosting.Hosting.nodes_after.Goals as goal

-- how many virtual nodes are read as hosted on a node
guests_read : (lab : Lab) (w : Wiring) (m : Mapping) (x : Hosting) (n k count : ℕ) → IsHosting lab w m x → k ≡ n → n < length lab.nodes → count ≡ get_or x.hosted.items k count → count ≡ hosted_at m.places n
guests_read lab w m x n k count hosting at lt read =
    let each = hosting.one_each in
    read ∙ ap (λ (j : ℕ). get_or x.hosted.items j count) at ∙ get_or_default x.hosted.items n count 0 (omega (arith, lt, each)) ∙ hosting.hosted n lt

at_most : (b : Bool) → cond b 1 0 ≤ 1
at_most true = omega arith
at_most false = omega arith

pub returns-then-from-place : goal.returns-then-from-place
returns-then-from-place c =
    let m = c.args.mapping.now in
    let virt = c.requires.virt in
    let all = c.requires.shaped.places in
    let lt : c.args.virt < length m.places = omega (arith, virt, all) in
    c.requires.hosting.nodes ∙ sym (used_stays m.places c.args.virt c.args.place.now lt (sym c.node_of-from.ensures ∙ c.if-from-place.true))

pub overflow_add-result : goal.overflow_add-result
overflow_add-result c =
    let few = nodes_small c.args.lab.now c.args.wiring.now c.args.mapping.now c.requires.sound c.requires.shaped in
    let nodes = c.requires.hosting.nodes in
    let one : c.one_if-joined.result ≤ 1 = subst (λ (n : ℕ). n ≤ 1) (sym c.one_if-joined.ensures) (at_most (eqb c.index.result.now 0)) in
    omega (arith, few, nodes, one)

pub overflow_sub-result : goal.overflow_sub-result
overflow_sub-result c =
    let m = c.args.mapping.now in
    let virt = c.requires.virt in
    let all = c.requires.shaped.places in
    let lt : c.args.virt < length m.places = omega (arith, virt, all) in
    let node = c.requires.shaped.in_nodes c.args.virt no_place lt in
    let count = guests_read c.args.lab.now c.args.wiring.now m c.args.self.now (get_or m.places c.args.virt no_place).0.0 c.node_of-from.result.0 c.index-2.result.now c.requires.hosting c.node_of-from.ensures node c.index-2.ensures in
    let flag : ◌≡◌ {A = ℕ} c.one_if-left.result (cond (eqb (hosted_at m.places (get_or m.places c.args.virt no_place).0.0) 1) 1 0) = c.one_if-left.ensures ∙ ap (λ (k : ℕ). cond (eqb k 1) 1 0) count in
    let some = used_some m.places c.args.virt lt in
    let nodes = c.requires.hosting.nodes in
    omega (arith, flag, some, nodes)

pub returns : goal.returns
returns c =
    let m = c.args.mapping.now in
    let virt = c.requires.virt in
    let all = c.requires.shaped.places in
    let lt : c.args.virt < length m.places = omega (arith, virt, all) in
    let a = (get_or m.places c.args.virt no_place).0.0 in
    let node = c.requires.shaped.in_nodes c.args.virt no_place lt in
    let count = guests_read c.args.lab.now c.args.wiring.now m c.args.self.now a c.node_of-from.result.0 c.index-2.result.now c.requires.hosting c.node_of-from.ensures node c.index-2.ensures in
    let flag : ◌≡◌ {A = ℕ} c.one_if-left.result (cond (eqb (hosted_at m.places a) 1) 1 0) = c.one_if-left.ensures ∙ ap (λ (k : ℕ). cond (eqb k 1) 1 0) count in
    let there = guests_read c.args.lab.now c.args.wiring.now m c.args.self.now c.args.place.now.0.0 c.args.place.now.0.0 c.index.result.now c.requires.hosting refl c.requires.node c.index.ensures in
    let joined : ◌≡◌ {A = ℕ} c.one_if-joined.result (cond (eqb (hosted_at m.places c.args.place.now.0.0) 0) 1 0) = c.one_if-joined.ensures ∙ ap (λ (k : ℕ). cond (eqb k 0) 1 0) there in
    let some = used_some m.places c.args.virt lt in
    let nodes = c.requires.hosting.nodes in
    used_apart m.places c.args.virt c.args.place.now (c.args.self.now.nodes + c.one_if-joined.result - c.one_if-left.result) lt
    (λ e. c.if-from-place.false (c.node_of-from.ensures ∙ e))
    (omega (arith, flag, joined, some, nodes))
