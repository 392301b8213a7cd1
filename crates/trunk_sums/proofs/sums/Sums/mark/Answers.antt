use Rattle.std.proofs.Common.{◌≡◌, ◌<◌, ◌+◌, ◌*◌, ◌∙◌, ℕ, false, inl, inr, length, get_or, sym, subst, arith, get_or-set_same, List}
use Rattle.std.proofs.lemmas.Bool.{cases_eq}
use Rattle.std.proofs.lemmas.List.{get_or_default, get_or-set_other, take_all}
use Rattle.trunk_sums.specs.declared.crossing.Crossing.{Crossing}
use Rattle.trunk_sums.specs.Crossed.{ups, downs}
use Rattle.trunk_sums.specs.Gains.{IsGain, no_gains}
use Rattle.trunk_sums.proofs.CrossLaws.{ups_more, downs_more, up_other, down_other}
use Rattle.trunk_sums.proofs.sums.Sums.mark.Goals as goal

abbrev none : Crossing
none = record { trunk = 0; onto = false }

pub loop-crossing-preserved : goal.loop-crossing-preserved
loop-crossing-preserved c t lt known =
    let cs = c.args.crossed.now in
    let k = c.loop-crossing.crossing-index in
    let x : Crossing = get_or cs k none in
    let here : k < length cs = c.loop-crossing-test.true in
    let row = c.args.row in
    let s = row.segment in
    let counts = c.args.self.now.counts.items in
    let g = c.mark.new.self in
    elim (cases_eq t x.trunk) [
      | inl is ↦ (
          let trunk : x.trunk < 64 = c.requires.within k none here in
          let place : 64 * s + x.trunk < length counts = omega (arith, trunk, c.requires.room) in
          let count : ◌≡◌ {A = ℕ} c.index-in-loop-crossing.result.now (get_or counts (64 * s + x.trunk) 0) = c.index-in-loop-crossing.ensures ∙ get_or_default counts (64 * s + x.trunk) c.index-in-loop-crossing.result.now 0 place in
          subst (λ (j : ℕ). IsGain row.ends (get_or counts (64 * s + j) 0) j g) (sym is) (subst (λ (n : ℕ). IsGain row.ends n x.trunk g) count c.mark.ensures.own))
      | inr apart ↦ (
          let us = ups_more t cs k none here in
          let ds = downs_more t cs k none here in
          let u0 = up_other t x (λ e. apart (sym e)) in
          let d0 = down_other t x (λ e. apart (sym e)) in
          c.mark.ensures.others row.ends (get_or counts (64 * s + t) 0) t lt apart (c.loop-crossing.invariant t lt (elim known [
            | inl same ↦ inl same
            | inr some ↦ inr (omega (arith, some, us, ds, u0, d0))
          ])))
    ]

pub index-requires-in-loop-crossing : goal.index-requires-in-loop-crossing
index-requires-in-loop-crossing c =
    let trunk = c.requires.within c.loop-crossing.crossing-index none c.loop-crossing-test.true in
    omega (arith, trunk, c.requires.room)

pub mark-requires : goal.mark-requires
mark-requires c = c.requires.within c.loop-crossing.crossing-index none c.loop-crossing-test.true

pub returns-clause-own : goal.returns-clause-own
returns-clause-own c = λ t lt known.
    let cs = c.args.crossed.now in
    let k = c.loop-crossing.crossing-index in
    let row = c.args.row in
    let x = c.args.self.now in
    let all = take_all k cs c.loop-crossing-test.false in
    let at = get_or-set_same x.gains.items row.segment c.loop-crossing.gains no_gains c.requires.row in
    subst (IsGain row.ends (get_or x.counts.items (64 * row.segment + t) 0) t) (sym at)
    (c.loop-crossing.invariant t lt (elim known [
      | inl same ↦ inl same
      | inr some ↦ inr (subst (λ (l : List Crossing). 0 < ups t l + downs t l) (sym all) some)
    ]))

pub returns-clause-others : goal.returns-clause-others
returns-clause-others c = λ s apart. get_or-set_other c.args.self.now.gains.items c.args.row.segment s c.loop-crossing.gains no_gains apart

pub overflow_add-place : goal.overflow_add-place
overflow_add-place c =
    let trunk = c.requires.within c.loop-crossing.crossing-index none c.loop-crossing-test.true in
    omega (arith, trunk)
