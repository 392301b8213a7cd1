use Rattle.std.proofs.Common.{◌≡◌, ◌≢◌, ◌<◌, ◌≤◌, ◌+◌, ◌-◌, ◌*◌, ◌∙◌, ℕ, Bool, false, cond, not, inl, inr, List, length, take, get_or, ap, sym, subst, arith, get_or-set_same, get_or-set_other}
use Rattle.std.proofs.Math.ListN.{set}
use Rattle.std.specs.List.{sum_by}
use Rattle.std.proofs.lemmas.Bool.{cases_eq}
use Rattle.std.proofs.lemmas.List.{length-set}
use Rattle.std.proofs.lemmas.List.Sums.{sum_by-set}
use Rattle.trunk_sums.specs.declared.crossing.Crossing.{Crossing}
use Rattle.trunk_sums.specs.Counts.{share, after}
use Rattle.trunk_sums.specs.Crossed.{ups, downs}
use Rattle.trunk_sums.proofs.CrossLaws.{up, down, ups_more, downs_more, ups_within, downs_within, up_other, down_other, up_this, down_this, crossed_row}
use Rattle.trunk_sums.proofs.sums.Sums.cross.Goals as goal

pub cross_one-requires-clause-onto : goal.cross_one-requires-clause-onto
cross_one-requires-clause-onto c is_onto =
    let cs = c.args.crossed.now in
    let k = c.loop-crossing.crossing-index in
    let x : Crossing = get_or cs k (record { trunk = 0; onto = false }) in
    let here : k < length cs = c.loop-crossing-test.true in
    let trunk : x.trunk < length c.args.self.now.uses.items = c.requires.within k (record { trunk = 0; onto = false }) here in
    let row = c.loop-crossing.invariant.row x.trunk trunk in
    let within = ups_within x.trunk cs k (record { trunk = 0; onto = false }) here in
    let one : ◌≡◌ {A = ℕ} (up x.trunk x) 1 = up_this x ∙ ap (λ (b : Bool). cond b 1 0) is_onto in
    let come = c.requires.come x.trunk trunk in
    omega (arith, row, within, one, come)

pub cross_one-requires-clause-off : goal.cross_one-requires-clause-off
cross_one-requires-clause-off c is_off =
    let cs = c.args.crossed.now in
    let k = c.loop-crossing.crossing-index in
    let x : Crossing = get_or cs k (record { trunk = 0; onto = false }) in
    let here : k < length cs = c.loop-crossing-test.true in
    let trunk : x.trunk < length c.args.self.now.uses.items = c.requires.within k (record { trunk = 0; onto = false }) here in
    let row = c.loop-crossing.invariant.row x.trunk trunk in
    let within = downs_within x.trunk cs k (record { trunk = 0; onto = false }) here in
    let one : ◌≡◌ {A = ℕ} (down x.trunk x) 1 = down_this x ∙ ap (λ (b : Bool). cond (not b) 1 0) is_off in
    let gone = c.requires.gone x.trunk trunk in
    omega (arith, row, within, one, gone)

pub loop-crossing-preserved : goal.loop-crossing-preserved
loop-crossing-preserved c =
    let cs = c.args.crossed.now in
    let k = c.loop-crossing.crossing-index in
    let x : Crossing = get_or cs k (record { trunk = 0; onto = false }) in
    let row = c.args.row in
    let s = row.segment in
    let inv = c.loop-crossing.invariant in
    let old = c.loop-crossing.self in
    let first = c.args.self.now in
    let new = c.cross_one.new.self in
    let place = 64 * s + x.trunk in
    let on = get_or old.counts.items place 0 in
    let v = after x.onto on in
    let y = get_or old.uses.items x.trunk 0 - share row.ends on row.kbps + share row.ends v row.kbps in
    let here : k < length cs = c.loop-crossing-test.true in
    let trunk : x.trunk < length first.uses.items = c.requires.within k (record { trunk = 0; onto = false }) here in
    let few : length first.uses.items ≤ 64 = c.requires.one_each in
    let wide : 64 * s + 64 ≤ length first.counts.items = c.requires.room in
    let there : place < length old.counts.items = omega (arith, trunk, few, wide, inv.room) in
    let in_uses : x.trunk < length old.uses.items = omega (arith, trunk, inv.one_each) in
    let counts : new.counts.items ≡ set old.counts.items place v = c.cross_one.ensures.counts in
    let uses : new.uses.items ≡ set old.uses.items x.trunk y = c.cross_one.ensures.uses in
    let count_here : ◌≡◌ {A = ℕ} (get_or new.counts.items place 0) v = ap (λ (l : List ℕ). get_or l place 0) counts ∙ get_or-set_same old.counts.items place v 0 there in
    let count_other : (j : ℕ) → j ≢ place → ◌≡◌ {A = ℕ} (get_or new.counts.items j 0) (get_or old.counts.items j 0) = λ j ne. ap (λ (l : List ℕ). get_or l j 0) counts ∙ get_or-set_other old.counts.items place j v 0 ne in
    let use_here : ◌≡◌ {A = ℕ} (get_or new.uses.items x.trunk 0) y = ap (λ (l : List ℕ). get_or l x.trunk 0) uses ∙ get_or-set_same old.uses.items x.trunk y 0 in_uses in
    let use_other : (j : ℕ) → j ≢ x.trunk → ◌≡◌ {A = ℕ} (get_or new.uses.items j 0) (get_or old.uses.items j 0) = λ j ne. ap (λ (l : List ℕ). get_or l j 0) uses ∙ get_or-set_other old.uses.items x.trunk j y 0 ne in
    let row_now = inv.row x.trunk trunk in
    let uses_now = inv.uses x.trunk trunk in
    let counted = c.requires.counted x.trunk trunk in
    let Row : ℕ → Type 0 = λ t. get_or new.counts.items (64 * s + t) 0 + downs t (take (k + 1) cs) ≡ get_or first.counts.items (64 * s + t) 0 + ups t (take (k + 1) cs) in
    let Use : ℕ → Type 0 = λ t. get_or new.uses.items t 0 + share row.ends (get_or first.counts.items (64 * s + t) 0) row.kbps ≡ get_or first.uses.items t 0 + share row.ends (get_or new.counts.items (64 * s + t) 0) row.kbps in
    let positive : x.onto ≡ false → 0 < on = λ is_off. (
    let within = downs_within x.trunk cs k (record { trunk = 0; onto = false }) here in
    let one : ◌≡◌ {A = ℕ} (down x.trunk x) 1 = down_this x ∙ ap (λ (b : Bool). cond (not b) 1 0) is_off in
    let gone = c.requires.gone x.trunk trunk in
    omega (arith, row_now, within, one, gone)) in
    let row_here : Row x.trunk =
    (let more = crossed_row x on (get_or first.counts.items place 0) (downs x.trunk (take k cs)) (ups x.trunk (take k cs)) row_now (λ is_off. positive is_off) in
    let us = ups_more x.trunk cs k (record { trunk = 0; onto = false }) here in
    let ds = downs_more x.trunk cs k (record { trunk = 0; onto = false }) here in
    omega (arith, more, us, ds, count_here)) in
    let share_here : ◌≡◌ {A = ℕ} (share row.ends (get_or new.counts.items place 0) row.kbps) (share row.ends v row.kbps) = ap (λ (n : ℕ). share row.ends n row.kbps) count_here in
    let enough : share row.ends on row.kbps ≤ get_or old.uses.items x.trunk 0 = omega (arith, uses_now, counted) in
    let use_here_is : Use x.trunk = omega (arith, use_here, share_here, uses_now, enough) in
    let sums = sum_by-set (λ (u : ℕ). u) old.uses.items x.trunk y 0 in_uses in
    let part = sum_by-set (λ (u : ℕ). u) old.uses.items x.trunk 0 0 in_uses in
    let sum_is : ◌≡◌ {A = ℕ} (sum_by (λ (u : ℕ). u) new.uses.items) (sum_by (λ (u : ℕ). u) (set old.uses.items x.trunk y)) = ap (λ (l : List ℕ). sum_by (λ (u : ℕ). u) l) uses in
    record {
      room = ap (λ (l : List ℕ). length l) counts ∙ length-set old.counts.items place v ∙ inv.room;
      one_each = ap (λ (l : List ℕ). length l) uses ∙ length-set old.uses.items x.trunk y ∙ inv.one_each;
      row = λ t lt. elim (cases_eq t x.trunk) [
        | inl is ↦ subst Row (sym is) row_here
        | inr apart ↦ (
            let us = ups_more t cs k (record { trunk = 0; onto = false }) here in
            let ds = downs_more t cs k (record { trunk = 0; onto = false }) here in
            let u0 = up_other t x (λ e. apart (sym e)) in
            let d0 = down_other t x (λ e. apart (sym e)) in
            let same = count_other (64 * s + t) (λ e. apart (omega (arith, e))) in
            let before = inv.row t lt in
            omega (arith, us, ds, u0, d0, same, before))
      ];
      others = λ j out. (
          let ne : j ≢ place = λ e. elim out [ inl low ↦ absurd (omega (arith, low, e)) | inr high ↦ absurd (omega (arith, high, e, trunk, few)) ] in
          count_other j ne ∙ inv.others j out);
      uses = λ t lt. elim (cases_eq t x.trunk) [
        | inl is ↦ subst Use (sym is) use_here_is
        | inr apart ↦ (
            let other = use_other t apart in
            let same = ap (λ (n : ℕ). share row.ends n row.kbps) (count_other (64 * s + t) (λ e. apart (omega (arith, e)))) in
            let before = inv.uses t lt in
            omega (arith, other, same, before))
      ];
      summed = (let total = c.cross_one.ensures.total in let now = inv.summed in omega (arith, total, now, sums, sum_is, enough, part));
      gains = c.cross_one.ensures.gains ∙ inv.gains;
      bound = (let more = c.cross_one.ensures.bound in let now = inv.bound in omega (arith, more, now));
    }
