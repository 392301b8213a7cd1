use Rattle.std.proofs.Common.{◌≡◌, ◌<◌, ℕ, List, length, get_or, ap, arith}
use Rattle.claims.specs.Held.{Held, use_by}
use Rattle.claims.proofs.claims.Claims.left.Goals as goal

pub left_of-requires-clause-number : goal.left_of-requires-clause-number
left_of-requires-clause-number c =
    let view = ap (λ (h : Held). length h.kbps) c.self.view_is in
    let kbps = ap length c.deref.ensures.value in
    omega (arith, c.requires, view, kbps)

pub left_of-requires-clause-one_each : goal.left_of-requires-clause-one_each
left_of-requires-clause-one_each c =
    let kbps = ap length c.deref.ensures.value in
    let used = ap length c.deref-2.ensures.value in
    let all = c.self.invariant.keeps.are_tables.trunks in
    omega (arith, kbps, used, all)

pub left_of-requires-clause-within : goal.left_of-requires-clause-within
left_of-requires-clause-within c =
    let t = c.args.trunk.0 in
    let view = ap (λ (h : Held). length h.kbps) c.self.view_is in
    let lt : t < length c.self.inside.kbps.items = omega (arith, c.requires, view) in
    let kbps : ◌≡◌ {A = ℕ} (get_or c.deref.result.now t 0) (get_or c.self.inside.kbps.items t 0) = ap (λ (l : List ℕ). get_or l t 0) c.deref.ensures.value in
    let used : ◌≡◌ {A = ℕ} (get_or c.deref-2.result.now t 0) (get_or c.self.inside.tables.used.items t 0) = ap (λ (l : List ℕ). get_or l t 0) c.deref-2.ensures.value in
    let is = c.self.invariant.keeps.are_tables.used_is t lt in
    let le = c.self.invariant.keeps.together.trunks t lt in
    omega (arith, kbps, used, is, le)

pub returns : goal.returns
returns c =
    let t = c.args.trunk.0 in
    let view = ap (λ (h : Held). length h.kbps) c.self.view_is in
    let lt : t < length c.self.inside.kbps.items = omega (arith, c.requires, view) in
    let kbps : ◌≡◌ {A = ℕ} (get_or c.deref.result.now t 0) (get_or c.self.inside.kbps.items t 0) = ap (λ (l : List ℕ). get_or l t 0) c.deref.ensures.value in
    let used : ◌≡◌ {A = ℕ} (get_or c.deref-2.result.now t 0) (get_or c.self.inside.tables.used.items t 0) = ap (λ (l : List ℕ). get_or l t 0) c.deref-2.ensures.value in
    let is = c.self.invariant.keeps.are_tables.used_is t lt in
    let same : ◌≡◌ {A = ℕ} (get_or c.self.inside.kbps.items t 0) (get_or c.args.self.now.kbps t 0) = ap (λ (h : Held). get_or h.kbps t 0) c.self.view_is in
    let uses : ◌≡◌ {A = ℕ} (use_by t c.self.inside.entries.items) (use_by t c.args.self.now.entries) = ap (λ (h : Held). use_by t h.entries) c.self.view_is in
    let left = c.left_of.ensures in
    omega (arith, kbps, used, is, same, uses, left)
