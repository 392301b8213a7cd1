use Rattle.std.proofs.Common.{◌≡◌, ◌<◌, ◌+◌, ◌*◌, ◌∙◌, ◌∷◌, [], inl, inr, ℕ, List, length, get_or, refl, ap, sym, subst, arith}
use Rattle.std.proofs.lemmas.Bool.{cases_lt}
use Rattle.std.proofs.lemmas.List.{get_or_push, get_or_append_left, get_or_read, length_push}
use Rattle.virt_topo.specs.declared.wiring.Segment.{Segment}
use Rattle.trunk_sums.specs.declared.gains.Gains.{Gains}
use Rattle.trunk_sums.specs.Gains.{IsGain, no_gains}
use Rattle.trunk_sums.specs.Summed.{no_segment}
use Rattle.virt_topo.proofs.CableLaws.{own_limits}
use Rattle.trunk_sums.proofs.start.gains_of.Goals as goal

pub loop-number-preserved : goal.loop-number-preserved
loop-number-preserved c =
    let w = c.args.wiring.now in
    let n = c.loop-number.number in
    let counts = c.args.counts.now in
    let gains = c.loop-number.gains.items in
    let g = c.gains_in.result in
    let s = c.index-as_slice-number.result in
    let inv = c.loop-number.invariant in
    let pushed = c.in_ok-push.ensures.items in
    let count = inv.count in
    let lt : n < length w.segments = omega (arith, c.loop-number-test.true, c.len-number-end.ensures) in
    let is : s ≡ get_or w.segments n no_segment =
    get_or_read w.segments n s lt (c.index-as_slice-number.is ∙ ap (λ (l : List Segment). get_or l n s) c.as_slice.ensures) no_segment in
    record {
      count = ap length pushed ∙ length_push gains g ∙ ap (λ (k : ℕ). k + 1) count;
      each = λ r t r_lt t_lt.
          let m = length (get_or w.segments r no_segment).ends in
          let k = get_or counts (64 * r + t) 0 in
          subst (λ (l : List Gains). IsGain m k t (get_or l r no_gains)) (sym pushed) (elim (cases_lt r n) [
            | inl below ↦ subst (IsGain m k t) (sym (get_or_append_left gains (g ∷ []) no_gains r (omega (arith, below, count)))) (inv.each r t below t_lt)
            | inr above ↦ (
                let here : r ≡ n = omega (arith, above, r_lt) in
                let own : IsGain (length (get_or w.segments n no_segment).ends) (get_or counts (64 * n + t) 0) t g =
                subst (λ (y : Segment). IsGain (length y.ends) (get_or counts (64 * n + t) 0) t g) is (c.gains_in.ensures t t_lt) in
                subst (IsGain m k t) (sym (get_or_push gains g no_gains r (omega (arith, here, count))))
                (subst (λ (j : ℕ). IsGain (length (get_or w.segments j no_segment).ends) (get_or counts (64 * j + t) 0) t g) (sym here) own))
          ]);
    }

pub gains_in-requires-clause-few : goal.gains_in-requires-clause-few
gains_in-requires-clause-few c =
    let w = c.args.wiring.now in
    let n = c.loop-number.number in
    let s = c.index-as_slice-number.result in
    let lt : n < length w.segments = omega (arith, c.loop-number-test.true, c.len-number-end.ensures) in
    let own = own_limits w w.segments n s refl c.requires.limits lt (c.index-as_slice-number.is ∙ ap (λ (l : List Segment). get_or l n s) c.as_slice.ensures) in
    own.few
