use Rattle.std.proofs.Common.{◌≡◌, ◌<◌, ◌∙◌, ℕ, length, get_or, ap, sym, subst, arith, get_or-set_same}
use Rattle.virt_topo.specs.declared.mapping.Mapping.{Mapping}
use Rattle.virt_topo.specs.Wirings.{virt_at}
use Rattle.lab_model.specs.Shapes.{Place, IsShaped}
use Rattle.lab_model.specs.Rules.{no_place}
use Rattle.cost_rule.specs.Cost.{soft_at, node_soft}
use Rattle.cost_rule.proofs.PartLaws.{soft_small}
use Rattle.map_state.specs.Members.{AreMembers}
use Rattle.map_state.specs.Hosted.{IsHosting, asked_soft, placed_at}
use Rattle.map_state.proofs.StateLaws.{shaped_at}
use Rattle.map_state.proofs.HostingLaws.{soft_after}
use Rattle.map_state.proofs.hosting.Hosting.place_virt.Goals as goal

-- the counts are those of the mapping with the new place
pub type_soft-lost-requires-clause-counted : goal.type_soft-lost-requires-clause-counted
type_soft-lost-requires-clause-counted c = subst (λ (y : Mapping). AreMembers c.args.wiring.now y c.go.new.self.members) (sym c.go.ensures.mapping) c.go.ensures.members

pub changed-self-requires-clause-small : goal.changed-self-requires-clause-small
changed-self-requires-clause-small c =
    let small = soft_small c.args.lab.now c.args.wiring.now c.args.mapping.now c.range-kept.ensures.lab c.requires.sound c.requires.shaped in
    omega (arith, small, c.requires.hosting.soft, c.go.ensures.soft)

-- what the virtual node and its class cost before and after makes the difference
pub changed-self-requires-clause-within : goal.changed-self-requires-clause-within
changed-self-requires-clause-within c =
    let lab = c.args.lab.now in
    let w = c.args.wiring.now in
    let m = c.args.mapping.now in
    let v = c.args.virt in
    let virt = c.requires.virt in
    let all = c.requires.shaped.places in
    let lt : v < length m.places = omega (arith, virt, all) in
    let law = soft_after lab w m v c.args.place virt lt in
    let before : ◌≡◌ {A = ℕ} c.at-before.result (node_soft lab w m v) = c.at-before.ensures.sum ∙ (λ i. soft_at lab w v (record { 0 = c.node_of-from.ensures i })) in
    let after : ◌≡◌ {A = ℕ} c.at-after.result (node_soft lab w (placed_at m v c.args.place) v) = c.at-after.ensures.sum ∙ ap (λ (q : Place). soft_at lab w v q.0) (sym (get_or-set_same m.places v c.args.place no_place lt)) in
    let lost : ◌≡◌ {A = ℕ} c.type_soft-lost.result (asked_soft w (placed_at m v c.args.place) (virt_at w v).asks (get_or m.places v no_place).1) =
    c.type_soft-lost.ensures.is ∙ (λ i. asked_soft w (c.go.ensures.mapping i) (virt_at w v).asks (c.kind_of-kind.ensures i)) in
    omega (arith, law, before, c.type_soft-gained.ensures.is, after, lost, c.requires.hosting.soft, c.go.ensures.soft)

pub returns-clause-shaped : goal.returns-clause-shaped
returns-clause-shaped c =
    subst (λ (y : Mapping). IsShaped c.args.lab.now c.args.wiring.now y) (sym c.go.ensures.mapping)
    (shaped_at c.args.lab.now c.args.wiring.now c.args.mapping.now c.args.virt c.args.place c.requires.shaped c.requires.node c.requires.typed)

pub returns-clause-hosting : goal.returns-clause-hosting
returns-clause-hosting c =
    let lab = c.args.lab.now in
    let w = c.args.wiring.now in
    let m = c.args.mapping.now in
    let v = c.args.virt in
    let p = c.args.place in
    let new = placed_at m v p in
    let virt = c.requires.virt in
    let all = c.requires.shaped.places in
    let lt : v < length m.places = omega (arith, virt, all) in
    let law = soft_after lab w m v p virt lt in
    let before : ◌≡◌ {A = ℕ} c.at-before.result (node_soft lab w m v) = c.at-before.ensures.sum ∙ (λ i. soft_at lab w v (record { 0 = c.node_of-from.ensures i })) in
    let gained = c.type_soft-gained.ensures.is in
    let after : ◌≡◌ {A = ℕ} c.at-after.result (node_soft lab w new v) = c.at-after.ensures.sum ∙ ap (λ (q : Place). soft_at lab w v q.0) (sym (get_or-set_same m.places v p no_place lt)) in
    let lost : ◌≡◌ {A = ℕ} c.type_soft-lost.result (asked_soft w new (virt_at w v).asks (get_or m.places v no_place).1) =
    c.type_soft-lost.ensures.is ∙ (λ i. asked_soft w (c.go.ensures.mapping i) (virt_at w v).asks (c.kind_of-kind.ensures i)) in
    let soft = c.requires.hosting.soft in
    let kept = c.go.ensures.soft in
    let sum = c.changed-self.ensures in
    subst (λ (y : Mapping). IsHosting lab w y (record { hosts = c.go.new.self.hosts; hosted = c.go.new.self.hosted; nodes = c.go.new.self.nodes; members = c.go.new.self.members; soft = c.changed-self.result })) (sym c.go.ensures.mapping) (record {
      hosts = c.go.ensures.hosts;
      one_each = c.go.ensures.one_each;
      hosted = c.go.ensures.hosted;
      nodes = c.go.ensures.nodes;
      members = c.go.ensures.members;
      soft = omega (arith, law, before, gained, after, lost, soft, kept, sum);
    })
