use Rattle.std.proofs.Common.{◌<◌, ◌≡◌, ◌∙◌, ◌+◌, ◌/◌, ◌%◌, [], inl, inr, ℕ, List, length, get_or, ap, sym, subst, arith}
use Rattle.std.proofs.lemmas.Bool.{cases_lt}
use Rattle.trunk_sums.specs.declared.crossing.Crossing.{Crossing}
use Rattle.trunk_sums.specs.Between.{AreBetween}
use Rattle.trunk_sums.proofs.table.table_of.Goals as goal

pub loop-number-preserved : goal.loop-number-preserved
loop-number-preserved c =
    let lab = c.args.lab.now in
    let n = c.loop-number.number in
    let new = c.push_pair.new.lists.items in
    let inv = c.loop-number.invariant in
    let told = c.in_ok-push_pair.ensures in
    let count = inv.count in
    record {
      count = told.length ∙ ap (λ (k : ℕ). k + 1) count;
      each = λ k lt from to. elim (cases_lt k n) [
        | inl below ↦ subst (λ (l : List Crossing). AreBetween lab (k / 64) (k % 64) (length lab.trunks) l) (sym (told.kept k (omega (arith, below, count)))) (inv.each k below from to)
        | inr above ↦ (
            let here : k ≡ n = omega (arith, above, lt) in
            let own = told.pair (subst (λ (j : ℕ). j / 64 < length lab.switches) here from) (subst (λ (j : ℕ). j % 64 < length lab.switches) here to) in
            subst (λ (j : ℕ). AreBetween lab (j / 64) (j % 64) (length lab.trunks) (get_or new j [])) (sym here)
            (subst (λ (j : ℕ). AreBetween lab (n / 64) (n % 64) (length lab.trunks) (get_or new j [])) count own))
      ];
    }
