use Rattle.std.proofs.Common.{◌≡◌, ◌<◌, ◌+◌, ◌-◌, ◌∙◌, ℕ, List, length, get_or, Bool, cond, eqb, map, refl, ap, sym, arith, ◌==◌, ◌≤◌, inl, inr, subst, get_or-set_same}
use Rattle.std.specs.List.{remove, count_by}
use Rattle.std.proofs.Math.ListN.{set}
use Rattle.std.proofs.lemmas.Bool.{eq-eqb, cases_eq}
use Rattle.std.proofs.lemmas.List.{length-set, map-set, get_or-set_other, length-map}
use Rattle.virt_topo.specs.declared.mapping.Mapping.{Mapping}
use Rattle.lab_model.specs.Shapes.{Place}
use Rattle.lab_model.specs.Rules.{no_place}
use Rattle.cost_rule.proofs.PartLaws.{nodes_small}
use Rattle.map_state.proofs.HostingLaws.{Went, guest_left, used_left, guests_went, used_went}
use Rattle.virt_topo.proofs.CableLaws.{sound_limits}
use Rattle.map_state.specs.Members.{AreMembers}
use Rattle.map_state.specs.declared.members.Members.{Members}
use Rattle.map_state.proofs.HostedNodeLaws.{few_hosted}
use Rattle.map_state.proofs.hosting.Hosting.go.Goals as goal

abbrev others_at : Mapping → ℕ → ℕ → ℕ
others_at m v n = count_by (λ (x : ℕ). x == n) (remove (map (λ (q : Place). q.0.0) m.places) v)

pub leave-requires-clause-guest : goal.leave-requires-clause-guest
leave-requires-clause-guest c =
    let m = c.args.mapping.now in
    let a = (get_or m.places c.args.virt no_place).0.0 in
    let virt = c.requires.virt in
    let all = c.requires.shaped.places in
    let lt : c.args.virt < length m.places = omega (arith, virt, all) in
    let node = c.requires.shaped.in_nodes c.args.virt no_place lt in
    let left = guest_left m.places c.args.virt a lt in
    let one : ◌≡◌ {A = ℕ} (cond (eqb a a) 1 0) 1 = ap (λ (b : Bool). cond b 1 0) (eq-eqb a a refl) in
    let hosted = c.requires.hosting.hosted a node in
    let at : ◌≡◌ {A = ℕ} (get_or c.args.self.now.hosted.items c.node_of-from.result.0 0) (get_or c.args.self.now.hosted.items a 0) = ap (λ (k : ℕ). get_or c.args.self.now.hosted.items k 0) c.node_of-from.ensures in
    omega (arith, left, one, hosted, at)

pub leave-requires-clause-used : goal.leave-requires-clause-used
leave-requires-clause-used c = λ alone.
    let m = c.args.mapping.now in
    let a = (get_or m.places c.args.virt no_place).0.0 in
    let virt = c.requires.virt in
    let all = c.requires.shaped.places in
    let lt : c.args.virt < length m.places = omega (arith, virt, all) in
    let node = c.requires.shaped.in_nodes c.args.virt no_place lt in
    let left = guest_left m.places c.args.virt a lt in
    let one : ◌≡◌ {A = ℕ} (cond (eqb a a) 1 0) 1 = ap (λ (b : Bool). cond b 1 0) (eq-eqb a a refl) in
    let hosted = c.requires.hosting.hosted a node in
    let at : ◌≡◌ {A = ℕ} (get_or c.args.self.now.hosted.items c.node_of-from.result.0 0) (get_or c.args.self.now.hosted.items a 0) = ap (λ (k : ℕ). get_or c.args.self.now.hosted.items k 0) c.node_of-from.ensures in
    let used = used_left m.places c.args.virt lt in
    let nodes = c.requires.hosting.nodes in
    let none : others_at m c.args.virt a ≡ 0 = omega (arith, left, one, hosted, at, alone) in
    let flag : ◌≡◌ {A = ℕ} (cond (eqb (others_at m c.args.virt a) 0) 1 0) 1 = ap (λ (b : Bool). cond b 1 0) (eq-eqb (others_at m c.args.virt a) 0 none) in
    omega (arith, used, nodes, flag)

pub join-requires-clause-few_nodes : goal.join-requires-clause-few_nodes
join-requires-clause-few_nodes c =
    let few = nodes_small c.args.lab.now c.args.wiring.now c.args.mapping.now c.requires.sound c.requires.shaped in
    let nodes = c.requires.hosting.nodes in
    let left = c.leave.ensures.nodes in
    omega (arith, few, nodes, left)

pub returns-clause-hosts : goal.returns-clause-hosts
returns-clause-hosts c =
    let m = c.args.mapping.now in
    ap (λ (l : List ℕ). set l c.args.virt c.args.place.0.0) (ap (λ y. y.items) (c.join.ensures.hosts ∙ c.leave.ensures.hosts) ∙ c.requires.hosting.hosts)
    ∙ sym (map-set (λ (p : Place). p.0.0) m.places c.args.virt c.args.place)

pub returns-clause-one_each : goal.returns-clause-one_each
returns-clause-one_each c =
    ap length c.join.ensures.hosted ∙ length-set c.leave.new.self.hosted.items c.args.place.0.0 _ ∙ ap length c.leave.ensures.hosted
    ∙ length-set c.args.self.now.hosted.items c.node_of-from.result.0 _ ∙ c.requires.hosting.one_each

pub returns-clause-hosted : goal.returns-clause-hosted
returns-clause-hosted c = λ n n_lt.
    let lab = c.args.lab.now in
    let m = c.args.mapping.now in
    let v = c.args.virt in
    let p = c.args.place in
    let a = (get_or m.places v no_place).0.0 in
    let x = c.args.self.now in
    let hosting = c.requires.hosting in
    let virt = c.requires.virt in
    let all = c.requires.shaped.places in
    let lt : v < length m.places = omega (arith, virt, all) in
    let from = c.node_of-from.ensures in
    let g = x.hosted.items in
    let h = c.leave.new.self.hosted.items in
    let k = c.join.new.self.hosted.items in
    let went : Went (length lab.nodes) m.places v p g h k x.nodes c.leave.new.self.nodes c.join.new.self.nodes = record {
      one_each = hosting.one_each;
      counted = hosting.hosted;
      used = hosting.nodes;
      from = c.requires.shaped.in_nodes v no_place lt;
      to = c.requires.node;
      left = c.leave.ensures.hosted ∙ ap (λ (n : ℕ). set g n (get_or g n 0 - 1)) from;
      left_used = ap (λ (n : ℕ). c.leave.new.self.nodes + cond (eqb (get_or g n 0) 1) 1 0) (sym from) ∙ c.leave.ensures.nodes;
      joined = c.join.ensures.hosted;
      joined_used = c.join.ensures.nodes;
    } in
    guests_went (length lab.nodes) m.places v p g h k x.nodes c.leave.new.self.nodes c.join.new.self.nodes lt went n n_lt

pub returns-clause-nodes : goal.returns-clause-nodes
returns-clause-nodes c =
    let lab = c.args.lab.now in
    let m = c.args.mapping.now in
    let v = c.args.virt in
    let p = c.args.place in
    let a = (get_or m.places v no_place).0.0 in
    let x = c.args.self.now in
    let hosting = c.requires.hosting in
    let virt = c.requires.virt in
    let all = c.requires.shaped.places in
    let lt : v < length m.places = omega (arith, virt, all) in
    let from = c.node_of-from.ensures in
    let g = x.hosted.items in
    let h = c.leave.new.self.hosted.items in
    let k = c.join.new.self.hosted.items in
    let went : Went (length lab.nodes) m.places v p g h k x.nodes c.leave.new.self.nodes c.join.new.self.nodes = record {
      one_each = hosting.one_each;
      counted = hosting.hosted;
      used = hosting.nodes;
      from = c.requires.shaped.in_nodes v no_place lt;
      to = c.requires.node;
      left = c.leave.ensures.hosted ∙ ap (λ (n : ℕ). set g n (get_or g n 0 - 1)) from;
      left_used = ap (λ (n : ℕ). c.leave.new.self.nodes + cond (eqb (get_or g n 0) 1) 1 0) (sym from) ∙ c.leave.ensures.nodes;
      joined = c.join.ensures.hosted;
      joined_used = c.join.ensures.nodes;
    } in
    used_went (length lab.nodes) m.places v p g h k x.nodes c.leave.new.self.nodes c.join.new.self.nodes lt went

pub node_of-from-requires : goal.node_of-from-requires
node_of-from-requires c =
    let virt = c.requires.virt in
    let all = c.requires.shaped.places in
    omega (arith, virt, all)

pub leave-requires-clause-within : goal.leave-requires-clause-within
leave-requires-clause-within c =
    let virt = c.requires.virt in
    let all = c.requires.shaped.places in
    let node = c.requires.shaped.in_nodes c.args.virt no_place (omega (arith, virt, all)) in
    let from = c.node_of-from.ensures in
    let each = c.requires.hosting.one_each in
    omega (arith, node, from, each)

pub join-requires-clause-within : goal.join-requires-clause-within
join-requires-clause-within c =
    let len = ap length c.leave.ensures.hosted ∙ length-set c.args.self.now.hosted.items c.node_of-from.result.0 _ in
    let node = c.requires.node in
    let each = c.requires.hosting.one_each in
    omega (arith, len, node, each)

-- one fewer at a is no more at b
few_left : (g : List ℕ) (a b : ℕ) → a < length g → get_or g b 0 ≤ 256 → get_or (set g a (get_or g a 0 - 1)) b 0 ≤ 256
few_left g a b lt few = elim (cases_eq b a) [
  | inl same ↦ (let at = get_or-set_same g a (get_or g a 0 - 1) 0 lt in subst (λ (k : ℕ). get_or (set g a (get_or g a 0 - 1)) k 0 ≤ 256) (sym same) (let here = subst (λ (k : ℕ). get_or g k 0 ≤ 256) same few in omega (arith, at, here)))
  | inr apart ↦ (let at = get_or-set_other g a b (get_or g a 0 - 1) 0 apart in omega (arith, at, few))
]

pub join-requires-clause-few : goal.join-requires-clause-few
join-requires-clause-few c =
    let m = c.args.mapping.now in
    let g = c.args.self.now.hosted.items in
    let virt = c.requires.virt in
    let all = c.requires.shaped.places in
    let node = c.requires.shaped.in_nodes c.args.virt no_place (omega (arith, virt, all)) in
    let from = c.node_of-from.ensures in
    let each = c.requires.hosting.one_each in
    let hosted = c.requires.hosting.hosted c.args.place.0.0 c.requires.node in
    let few = few_hosted m.places c.args.place.0.0 in
    let limits = (sound_limits c.args.wiring.now c.requires.sound).nodes in
    subst (λ (l : List ℕ). get_or l c.args.place.0.0 0 ≤ 256) (sym c.leave.ensures.hosted)
    (few_left g c.node_of-from.result.0 c.args.place.0.0 (omega (arith, node, from, each)) (omega (arith, hosted, few, limits, all)))

pub index_mut-requires : goal.index_mut-requires
index_mut-requires c =
    let m = c.args.mapping.now in
    let virt = c.requires.virt in
    let all = c.requires.shaped.places in
    let len = ap length (ap (λ y. y.items) (c.join.ensures.hosts ∙ c.leave.ensures.hosts) ∙ c.requires.hosting.hosts) ∙ length-map m.places (λ (p : Place). p.0.0) in
    omega (arith, virt, all, len)

pub go-requires-clause-placed : goal.go-requires-clause-placed
go-requires-clause-placed c = c.requires.shaped.places

pub go-requires-clause-counted : goal.go-requires-clause-counted
go-requires-clause-counted c = subst (λ (y : Members). AreMembers c.args.wiring.now c.args.mapping.now y) (sym (c.join.ensures.members ∙ c.leave.ensures.members)) c.requires.hosting.members

pub set_place-requires : goal.set_place-requires
set_place-requires c =
    let virt = c.requires.virt in
    let all = c.requires.shaped.places in
    omega (arith, virt, all)

pub returns-clause-members : goal.returns-clause-members
returns-clause-members c = c.go.ensures

pub returns-clause-soft : goal.returns-clause-soft
returns-clause-soft c = c.join.ensures.soft ∙ c.leave.ensures.soft
