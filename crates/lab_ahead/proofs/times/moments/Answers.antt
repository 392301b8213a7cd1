use Rattle.std.proofs.Common.{◌≡◌, ◌++◌, ◌+◌, ℕ, List, sym, ap, subst, ◌∙◌}
use Rattle.std.specs.Ordering.{nat_cmp}
use Rattle.std.specs.List.Sorted.{IsStrictlySortedBy}
use Rattle.lab_base.specs.Lists.{Has}
use Rattle.lab_ahead.specs.Moments.{first_moment, starts_within}
use Rattle.lab_ahead.proofs.SortLaws.{numbers_before, numbers_kept, numbers_rising}
use Rattle.lab_ahead.proofs.Spans.{enough, tested_from, tested_to}
use Rattle.lab_ahead.proofs.times.moments.Goals as goal

pub returns-clause-rising : goal.returns-clause-rising
returns-clause-rising c =
    subst (λ (l : List ℕ). IsStrictlySortedBy nat_cmp l) (sym c.from_vec.ensures)
    (numbers_rising c.push_starts.new.moments.items c.sort.new.self.items c.dedup.new.self.items c.in_ok-sort.ensures.permutation c.dedup.ensures.filtered c.in_ok-sort.ensures.sorted)

pub returns-clause-exact : goal.returns-clause-exact
returns-clause-exact c = λ t.
    let promises = c.args.promises.now in
    let raw : c.push_starts.new.moments.items ≡ first_moment c.args.now c.args.length ++ starts_within c.args.now (c.args.now + c.args.length) promises =
    c.in_ok-push_starts.ensures ∙ ap (λ (l : List ℕ). l ++ starts_within c.args.now (c.args.now + c.args.length) promises) c.in_ok-moments.ensures in (
      λ h. tested_from promises c.args.now c.args.length t (subst (λ (l : List ℕ). Has l t) raw
          (numbers_before c.push_starts.new.moments.items c.sort.new.self.items c.dedup.new.self.items c.in_ok-sort.ensures.permutation c.dedup.ensures.filtered t (subst (λ (l : List ℕ). Has l t) c.from_vec.ensures h))),
      λ tested. subst (λ (l : List ℕ). Has l t) (sym c.from_vec.ensures)
          (numbers_kept c.push_starts.new.moments.items c.sort.new.self.items c.dedup.new.self.items c.in_ok-sort.ensures.permutation c.dedup.ensures.filtered t
          (subst (λ (l : List ℕ). Has l t) (sym raw) (tested_to promises c.args.now c.args.length t tested))),
    )

pub returns-clause-enough : goal.returns-clause-enough
returns-clause-enough c =
    let promises = c.args.promises.now in
    let raw : c.push_starts.new.moments.items ≡ first_moment c.args.now c.args.length ++ starts_within c.args.now (c.args.now + c.args.length) promises =
    c.in_ok-push_starts.ensures ∙ ap (λ (l : List ℕ). l ++ starts_within c.args.now (c.args.now + c.args.length) promises) c.in_ok-moments.ensures in
    enough c.from_vec.result promises c.args.now c.args.length
    (λ t tested. subst (λ (l : List ℕ). Has l t) (sym c.from_vec.ensures)
    (numbers_kept c.push_starts.new.moments.items c.sort.new.self.items c.dedup.new.self.items c.in_ok-sort.ensures.permutation c.dedup.ensures.filtered t
    (subst (λ (l : List ℕ). Has l t) (sym raw) (tested_to promises c.args.now c.args.length t tested))))
