use Rattle.std.proofs.Common.{◌≡◌, ◌<◌, ◌+◌, ◌∙◌, ℕ, List, length, get_or, true, false, None, refl, ap, sym, arith, get_or-set_same, subst}
use Rattle.std.proofs.lemmas.List.{get_or_default}
use Rattle.lab_base.specs.Names.{same_name}
use Rattle.lab_base.proofs.Bytes.{bytes_same}
use Rattle.phys_lab.specs.Labs.{Lab}
use Rattle.virt_topo.specs.declared.wiring.Asks.{Asks}
use Rattle.virt_topo.specs.declared.wiring.Asks.TheVariants.{Plain, Class as InClass}
use Rattle.virt_topo.specs.declared.wiring.Wiring.{Wiring}
use Rattle.virt_topo.specs.declared.mapping.Mapping.{Mapping}
use Rattle.virt_topo.specs.Wirings.{virt_at}
use Rattle.lab_model.specs.Shapes.{Place}
use Rattle.lab_model.specs.Rules.{no_place}
use Rattle.cost_rule.specs.Cost.{soft, soft_at, node_soft}
use Rattle.cost_rule.proofs.PartLaws.{soft_small}
use Rattle.map_state.specs.Hosted.{asked_soft, placed_at}
use Rattle.map_state.proofs.HostingLaws.{soft_after, soft_alike}
use Rattle.map_state.specs.Members.{asked_index, is_plain}
use Rattle.map_state.proofs.hosting.Hosting.soft_after.Goals as goal

-- the old place, as it was read
read : (m : Mapping) (v : ℕ) (places : List Place) (old : Place) → v < length m.places → places ≡ m.places → old ≡ get_or places v old → old ≡ get_or m.places v no_place
read m v places old lt all is = is ∙ ap (λ (l : List Place). get_or l v old) all ∙ get_or_default m.places v old no_place lt

there : (lab : Lab) (w : Wiring) (m : Mapping) (v : ℕ) (p : Place) → v < length m.places → node_soft lab w (placed_at m v p) v ≡ soft_at lab w v p.0
there lab w m v p lt = ap (λ (q : Place). soft_at lab w v q.0) (get_or-set_same m.places v p no_place lt)

-- what is soft where the type stays, and where it doesn't
kept : (lab : Lab) (w : Wiring) (m : Mapping) (v : ℕ) (p old : Place) → v < length w.nodes → v < length m.places → old ≡ get_or m.places v no_place → same_name old.1 p.1 ≡ true
    → soft lab w (placed_at m v p) + soft_at lab w v old.0 ≡ soft lab w m + soft_at lab w v p.0
kept lab w m v p old virt lt is same =
    let law = soft_alike lab w m v p virt lt (ap (λ (q : Place). q.1) (sym is) ∙ bytes_same old.1 p.1 same) in
    let before : ◌≡◌ {A = ℕ} (soft_at lab w v old.0) (node_soft lab w m v) = ap (λ (q : Place). soft_at lab w v q.0) is in
    let after = there lab w m v p lt in
    omega (arith, law, before, after)

changed : (lab : Lab) (w : Wiring) (m : Mapping) (v : ℕ) (p old : Place) (lost : ℕ) → v < length w.nodes → v < length m.places → old ≡ get_or m.places v no_place → same_name old.1 p.1 ≡ false
    → ((q : Place) → same_name (get_or m.places v no_place).1 q.1 ≡ false → lost ≡ asked_soft w (placed_at m v q) (virt_at w v).asks (get_or m.places v no_place).1)
    → soft lab w (placed_at m v p) + soft_at lab w v old.0 + lost ≡ soft lab w m + soft_at lab w v p.0 + asked_soft w m (virt_at w v).asks p.1
changed lab w m v p old lost virt lt is other less =
    let law = soft_after lab w m v p virt lt in
    let before : ◌≡◌ {A = ℕ} (soft_at lab w v old.0) (node_soft lab w m v) = ap (λ (q : Place). soft_at lab w v q.0) is in
    let after = there lab w m v p lt in
    let own = less p (ap (λ (q : Place). same_name q.1 p.1) (sym is) ∙ other) in
    omega (arith, law, before, after, own)

-- what is soft where no class is asked for
no_class : (w : Wiring) (m : Mapping) (asks : Asks) (kind : List ℕ) → is_plain asks ≡ true → asked_soft w m asks kind ≡ 0
no_class w m (Plain t) kind is = refl
no_class w m (InClass c) kind is = absurd (cc is)

uncounted : (w : Wiring) (asks : Asks) (kind : List ℕ) → is_plain asks ≡ true → asked_index w asks kind ≡ None
uncounted w (Plain t) kind is = refl
uncounted w (InClass c) kind is = absurd (cc is)

plain : (lab : Lab) (w : Wiring) (m : Mapping) (v : ℕ) (p old : Place) → v < length w.nodes → v < length m.places → old ≡ get_or m.places v no_place → is_plain (virt_at w v).asks ≡ true
    → soft lab w (placed_at m v p) + soft_at lab w v old.0 ≡ soft lab w m + soft_at lab w v p.0
plain lab w m v p old virt lt is none =
    let law = soft_after lab w m v p virt lt in
    let before : ◌≡◌ {A = ℕ} (soft_at lab w v old.0) (node_soft lab w m v) = ap (λ (q : Place). soft_at lab w v q.0) is in
    let after = there lab w m v p lt in
    let lost = no_class w (placed_at m v p) (virt_at w v).asks (get_or m.places v no_place).1 none in
    let gained = no_class w m (virt_at w v).asks p.1 none in
    omega (arith, law, before, after, lost, gained)

pub changed-soft-requires-clause-small : goal.changed-soft-requires-clause-small
changed-soft-requires-clause-small c =
    let small = soft_small c.args.lab.now c.args.wiring.now c.args.mapping.now c.range-kept.ensures.lab c.requires.sound c.requires.shaped in
    omega (arith, small, c.requires.hosting.soft)

pub changed-soft-requires-clause-first : goal.changed-soft-requires-clause-first
changed-soft-requires-clause-first c = omega (arith, c.at-after.ensures.small)

pub changed-soft-requires-clause-within : goal.changed-soft-requires-clause-within
changed-soft-requires-clause-within c =
    let m = c.args.mapping.now in
    let v = c.args.virt in
    let old : Place = c.index-as_slice-virt.result in
    let all = c.requires.shaped.places in
    let lt : v < length m.places = omega (arith, c.requires.virt, all) in
    let is = read m v c.as_slice.result.now old lt c.as_slice.ensures c.index-as_slice-virt.is in
    let law = plain c.args.lab.now c.args.wiring.now m v c.args.place.now old c.requires.virt lt is (sym c.is_plain.ensures ∙ c.if-is_plain.true) in
    omega (arith, law, c.at-before.ensures.sum, c.at-after.ensures.sum, c.requires.hosting.soft)

pub returns-then-is_plain-clause-soft : goal.returns-then-is_plain-clause-soft
returns-then-is_plain-clause-soft c =
    let m = c.args.mapping.now in
    let v = c.args.virt in
    let old : Place = c.index-as_slice-virt.result in
    let all = c.requires.shaped.places in
    let lt : v < length m.places = omega (arith, c.requires.virt, all) in
    let is = read m v c.as_slice.result.now old lt c.as_slice.ensures c.index-as_slice-virt.is in
    let law = plain c.args.lab.now c.args.wiring.now m v c.args.place.now old c.requires.virt lt is (sym c.is_plain.ensures ∙ c.if-is_plain.true) in
    omega (arith, law, c.at-before.ensures.sum, c.at-after.ensures.sum, c.requires.hosting.soft, c.changed-soft.ensures)

pub returns-then-is_plain-clause-counted : goal.returns-then-is_plain-clause-counted
returns-then-is_plain-clause-counted c =
    sym (uncounted c.args.wiring.now (virt_at c.args.wiring.now c.args.virt).asks c.args.place.now.1 (sym c.is_plain.ensures ∙ c.if-is_plain.true))

pub changed-soft-requires-then-eq-clause-small : goal.changed-soft-requires-then-eq-clause-small
changed-soft-requires-then-eq-clause-small c =
    let small = soft_small c.args.lab.now c.args.wiring.now c.args.mapping.now c.range-kept.ensures.lab c.requires.sound c.requires.shaped in
    omega (arith, small, c.requires.hosting.soft)

pub changed-soft-requires-then-eq-clause-within : goal.changed-soft-requires-then-eq-clause-within
changed-soft-requires-then-eq-clause-within c =
    let m = c.args.mapping.now in
    let v = c.args.virt in
    let old : Place = c.index-as_slice-virt.result in
    let all = c.requires.shaped.places in
    let lt : v < length m.places = omega (arith, c.requires.virt, all) in
    let is = read m v c.as_slice.result.now old lt c.as_slice.ensures c.index-as_slice-virt.is in
    let law = kept c.args.lab.now c.args.wiring.now m v c.args.place.now old c.requires.virt lt is (sym c.eq.ensures ∙ c.if-eq.true) in
    omega (arith, law, c.at-before.ensures.sum, c.at-after.ensures.sum, c.requires.hosting.soft)

pub returns-then-eq-clause-soft : goal.returns-then-eq-clause-soft
returns-then-eq-clause-soft c =
    let m = c.args.mapping.now in
    let v = c.args.virt in
    let old : Place = c.index-as_slice-virt.result in
    let all = c.requires.shaped.places in
    let lt : v < length m.places = omega (arith, c.requires.virt, all) in
    let is = read m v c.as_slice.result.now old lt c.as_slice.ensures c.index-as_slice-virt.is in
    let law = kept c.args.lab.now c.args.wiring.now m v c.args.place.now old c.requires.virt lt is (sym c.eq.ensures ∙ c.if-eq.true) in
    omega (arith, law, c.at-before.ensures.sum, c.at-after.ensures.sum, c.requires.hosting.soft, c.changed-soft-then-eq.ensures)

pub changed-soft-requires-2-clause-small : goal.changed-soft-requires-2-clause-small
changed-soft-requires-2-clause-small c =
    let small = soft_small c.args.lab.now c.args.wiring.now c.args.mapping.now c.range-kept.ensures.lab c.requires.sound c.requires.shaped in
    omega (arith, small, c.requires.hosting.soft)

pub changed-soft-requires-2-clause-within : goal.changed-soft-requires-2-clause-within
changed-soft-requires-2-clause-within c =
    let m = c.args.mapping.now in
    let v = c.args.virt in
    let old : Place = c.index-as_slice-virt.result in
    let all = c.requires.shaped.places in
    let lt : v < length m.places = omega (arith, c.requires.virt, all) in
    let is = read m v c.as_slice.result.now old lt c.as_slice.ensures c.index-as_slice-virt.is in
    let law =
    changed c.args.lab.now c.args.wiring.now m v c.args.place.now old c.last_soft-lost.result c.requires.virt lt is (sym c.eq.ensures ∙ c.if-eq.false) c.last_soft-lost.ensures.is in
    omega (arith, law, c.at-before.ensures.sum, c.at-after.ensures.sum, c.type_soft-gained.ensures.is, c.requires.hosting.soft)

pub returns-clause-soft : goal.returns-clause-soft
returns-clause-soft c =
    let m = c.args.mapping.now in
    let v = c.args.virt in
    let old : Place = c.index-as_slice-virt.result in
    let all = c.requires.shaped.places in
    let lt : v < length m.places = omega (arith, c.requires.virt, all) in
    let is = read m v c.as_slice.result.now old lt c.as_slice.ensures c.index-as_slice-virt.is in
    let law =
    changed c.args.lab.now c.args.wiring.now m v c.args.place.now old c.last_soft-lost.result c.requires.virt lt is (sym c.eq.ensures ∙ c.if-eq.false) c.last_soft-lost.ensures.is in
    omega (arith, law, c.at-before.ensures.sum, c.at-after.ensures.sum, c.type_soft-gained.ensures.is, c.requires.hosting.soft, c.changed-soft-2.ensures)

pub at-before-requires-clause-softs : goal.at-before-requires-clause-softs
at-before-requires-clause-softs c = c.requires.softs

pub at-after-requires-clause-softs : goal.at-after-requires-clause-softs
at-after-requires-clause-softs c = c.requires.softs

pub at-before-requires-clause-node : goal.at-before-requires-clause-node
at-before-requires-clause-node c =
    let m = c.args.mapping.now in
    let v = c.args.virt in
    let old : Place = c.index-as_slice-virt.result in
    let all = c.requires.shaped.places in
    let lt : v < length m.places = omega (arith, c.requires.virt, all) in
    let is = read m v c.as_slice.result.now old lt c.as_slice.ensures c.index-as_slice-virt.is in
    subst (λ (q : Place). q.0.0 < length c.args.lab.now.nodes) (sym is) (c.requires.shaped.in_nodes v no_place lt)

pub changed-soft-requires-then-eq-clause-first : goal.changed-soft-requires-then-eq-clause-first
changed-soft-requires-then-eq-clause-first c = omega (arith, c.at-after.ensures.small)

pub changed-soft-requires-2-clause-first : goal.changed-soft-requires-2-clause-first
changed-soft-requires-2-clause-first c = omega (arith, c.at-after.ensures.small)

pub returns-then-eq-clause-counted : goal.returns-then-eq-clause-counted
returns-then-eq-clause-counted c =
    let m = c.args.mapping.now in
    let v = c.args.virt in
    let old : Place = c.index-as_slice-virt.result in
    let all = c.requires.shaped.places in
    let lt : v < length m.places = omega (arith, c.requires.virt, all) in
    let is = read m v c.as_slice.result.now old lt c.as_slice.ensures c.index-as_slice-virt.is in
    c.counted.ensures ∙ c.requires.hosting.members.own v c.requires.virt
    ∙ ap (λ (k : List ℕ). asked_index c.args.wiring.now (virt_at c.args.wiring.now v).asks k)
    (ap (λ (q : Place). q.1) (sym is) ∙ bytes_same old.1 c.args.place.now.1 (sym c.eq.ensures ∙ c.if-eq.true))

pub returns-clause-counted : goal.returns-clause-counted
returns-clause-counted c = c.virt_index-into.ensures.is
