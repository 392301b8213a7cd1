use Rattle.std.proofs.Common.{◌≡◌, ◌≢◌, ◌<◌, ◌∙◌, ℕ, List, length, get_or, ap, subst, arith, get_or-set_same, sym, Bool, not}
use Rattle.std.proofs.Math.ListN.{set}
use Rattle.std.proofs.lemmas.Bool.{le-leb, leb-true, false≢true, eq-eqb}
use Rattle.std.proofs.lemmas.List.{get_or_default, length-set}
use Rattle.lab_model.specs.Shapes.{Place, node_at}
use Rattle.lab_model.specs.Rules.{no_place, number_of}
use Rattle.map_state.specs.Hosted.{IsFull, hosted_at, placed_at}
use Rattle.map_state.proofs.Alikes.{candidate_within}
use Rattle.map_state.proofs.StateLaws.{shaped_at}
use Rattle.map_state.proofs.FullLaws.{overfull_no_map}
use Rattle.map_state.proofs.HostingLaws.{guest_more}
use Rattle.map_state.proofs.state.MapState.is_full.Goals as goal

pub returns-then-from-room-clause-full : goal.returns-then-from-room-clause-full
returns-then-from-room-clause-full c =
    let m = c.args.self.now.mapping in
    let v = c.args.virt in
    let room = c.args.room in
    let laid = c.requires.state in
    let node = c.requires.node in
    let lt : v < length m.places = (let all = laid.shaped.places in let virt = c.requires.virt in omega (arith, virt, all)) in
    let own = c.index-as_slice-virt.result in
    let from : get_or c.as_slice.result.now v own ≡ get_or m.places v no_place = ap (λ (l : List Place). get_or l v own) c.as_slice.ensures ∙ get_or_default m.places v own no_place lt in
    let apart : (get_or m.places v no_place).0.0 ≢ room.node.0 = λ same. c.if-from-room.true (ap (λ (q : Place). q.0.0) from ∙ same) in
    let hosted = c.args.self.now.hosting.hosted.items in
    let each = laid.hosting.one_each in
    let here : ◌≡◌ {A = ℕ} c.index.result.now (hosted_at m.places room.node.0) =
    c.index.ensures ∙ get_or_default hosted room.node.0 c.index.result.now 0 (omega (arith, node, each)) ∙ laid.hosting.hosted room.node.0 node in (
      λ yes. (apart, (let full = leb-true room.most c.index.result.now yes in omega (arith, full, here))),
      λ full. le-leb room.most c.index.result.now (let as_many = full.1 in omega (arith, as_many, here)),
    )

pub returns-then-from-room-clause-none : goal.returns-then-from-room-clause-none
returns-then-from-room-clause-none c = λ p among is yes.
    let x = c.args.search.now.mapper in
    let lab = x.lab.now in
    let m = c.args.self.now.mapping in
    let v = c.args.virt in
    let laid = c.requires.state in
    let lt : v < length m.places = (let all = laid.shaped.places in let virt = c.requires.virt in omega (arith, virt, all)) in
    let within = candidate_within lab x.free.now x.wiring.now m.places v p laid.choice lt among in
    let is_full = subst (IsFull m.places v) is ((returns-then-from-room-clause-full c).0 yes) in
    let full = is_full.1 in
    let more = guest_more m.places v p lt is_full.0 in
    let there : get_or (set m.places v p) v no_place ≡ p = get_or-set_same m.places v p no_place lt in
    let on : ◌≡◌ {A = ℕ} (hosted_at (set m.places v p) (get_or (set m.places v p) v no_place).0.0) (hosted_at (set m.places v p) p.0.0) = ap (λ (q : Place). hosted_at (set m.places v p) q.0.0) there in
    let allowed : ◌≡◌ {A = ℕ} (number_of (node_at lab (get_or (set m.places v p) v no_place).0).types (get_or (set m.places v p) v no_place).1) (number_of (node_at lab p.0).types p.1) = ap (λ (q : Place). number_of (node_at lab q.0).types q.1) there in
    overfull_no_map lab x.free.now x.wiring.now (placed_at m v p) v (shaped_at lab x.wiring.now m v p laid.shaped within.0 within.1) (omega (arith, lt, length-set m.places v p)) (omega (arith, full, more, on, allowed))

pub index-requires : goal.index-requires
index-requires c =
    let node = c.requires.node in
    let each = c.requires.state.hosting.one_each in
    omega (arith, node, each)

pub returns-else-from-room-clause-full : goal.returns-else-from-room-clause-full
returns-else-from-room-clause-full c =
    let m = c.args.self.now.mapping in
    let v = c.args.virt in
    let lt : v < length m.places = (let all = c.requires.state.shaped.places in let virt = c.requires.virt in omega (arith, virt, all)) in
    let own = c.index-as_slice-virt.result in
    let from : get_or c.as_slice.result.now v own ≡ get_or m.places v no_place = ap (λ (l : List Place). get_or l v own) c.as_slice.ensures ∙ get_or_default m.places v own no_place lt in (
      λ is. absurd (false≢true (ap (λ (b : Bool). not b) (sym (eq-eqb (get_or c.as_slice.result.now v own).0.0 c.args.room.node.0 c.if-from-room.false)) ∙ is)),
      λ full. absurd (full.0 (sym (ap (λ (q : Place). q.0.0) from) ∙ c.if-from-room.false)),
    )

pub returns-else-from-room-clause-none : goal.returns-else-from-room-clause-none
returns-else-from-room-clause-none c = λ p among is yes.
    let own = c.index-as_slice-virt.result in
    absurd (false≢true (ap (λ (b : Bool). not b) (sym (eq-eqb (get_or c.as_slice.result.now c.args.virt own).0.0 c.args.room.node.0 c.if-from-room.false)) ∙ yes))
