use Rattle.std.proofs.Common.{◌≡◌, ◌+◌, ◌∙◌, ◌∷◌, [], inl, inr, ℕ, List, length, get_or, ap, sym, subst, arith}
use Rattle.std.proofs.lemmas.Bool.{cases_lt}
use Rattle.std.proofs.lemmas.List.{get_or_push, get_or_append_left, length_push}
use Rattle.trunk_sums.specs.Between.{AreSides}
use Rattle.trunk_sums.proofs.table.sides_of.Goals as goal

pub loop-number-preserved : goal.loop-number-preserved
loop-number-preserved c =
    let lab = c.args.lab.now in
    let trunks = length lab.trunks in
    let n = c.loop-number.number in
    let sides = c.loop-number.sides.items in
    let word = c.sides_at.result in
    let count = c.loop-number.invariant.count in
    let pushed = c.in_ok-push.ensures.items in
    record {
      count = ap length pushed ∙ length_push sides word ∙ ap (λ (k : ℕ). k + 1) count;
      each = λ z lt. subst (λ (l : List ℕ). AreSides lab z trunks (get_or l z 0)) (sym pushed) (elim (cases_lt z n) [
        | inl below ↦ subst (AreSides lab z trunks) (sym (get_or_append_left sides (word ∷ []) 0 z (omega (arith, below, count)))) (c.loop-number.invariant.each z below)
        | inr above ↦ (
            let here : z ≡ n = omega (arith, above, lt) in
            subst (AreSides lab z trunks) (sym (get_or_push sides word 0 z (omega (arith, here, count))))
            (subst (λ (j : ℕ). AreSides lab j trunks word) (sym here) c.sides_at.ensures))
      ]);
    }
