use Rattle.std.proofs.Common.{◌≡◌, ◌+◌, ◌*◌, ℕ, inl, inr, length, get_or, ap, sym, subst, arith}
use Rattle.std.proofs.lemmas.Bool.{cases_lt}
use Rattle.phys_lab.proofs.TrunkCount.{few_trunks}
use Rattle.trunk_sums.specs.Gains.{IsGain}
use Rattle.trunk_sums.proofs.start.gains_in.Goals as goal

pub bounds-counts-number : goal.bounds-counts-number
bounds-counts-number c = omega (arith, few_trunks c.args.lab.now c.range-kept.ensures.lab, ap length c.trunks-trunk-end.ensures.list, c.loop-trunk-test.true, c.requires.room)

pub overflow_cast-trunk : goal.overflow_cast-trunk
overflow_cast-trunk c = omega (arith, few_trunks c.args.lab.now c.range-kept.ensures.lab, ap length c.trunks-trunk-end.ensures.list, c.loop-trunk-test.true)

pub mark-requires : goal.mark-requires
mark-requires c = omega (arith, few_trunks c.args.lab.now c.range-kept.ensures.lab, ap length c.trunks-trunk-end.ensures.list, c.loop-trunk-test.true)

pub loop-trunk-preserved : goal.loop-trunk-preserved
loop-trunk-preserved c t lt =
    let n = c.loop-trunk.trunk in
    let counts = c.args.counts.now in
    let place = 64 * c.args.number in
    let ends = length c.args.segment.now.ends in
    let g = c.mark.new.self in
    let here = few_trunks c.args.lab.now c.range-kept.ensures.lab in
    let all = ap length c.trunks-trunk-end.ensures.list in
    elim (cases_lt t n) [
      | inl below ↦ c.mark.ensures.others ends (get_or counts (place + t) 0) t (omega (arith, below, here, all, c.loop-trunk-test.true)) (λ e. absurd (omega (arith, e, below))) (c.loop-trunk.invariant t below)
      | inr above ↦ (
          let is : t ≡ n = omega (arith, above, lt) in
          let own : IsGain ends (get_or counts (place + n) 0) n g = subst (λ (m : ℕ). IsGain m (get_or counts (place + n) 0) n g) c.len.ensures c.mark.ensures.own in
          subst (λ (j : ℕ). IsGain ends (get_or counts (place + j) 0) j g) (sym is) own)
    ]
