use Rattle.std.proofs.Common.{◌≡◌, ℕ, List, map, sym, ap, subst, ◌∙◌}
use Rattle.std.specs.Ordering.{nat_cmp}
use Rattle.std.specs.List.Sorted.{IsStrictlySortedBy}
use Rattle.std.specs.Cmp.Lexicographic.{slice_cmp}
use Rattle.std.proofs.lemmas.List.{take_all}
use Rattle.lab_base.specs.Lists.{Has}
use Rattle.lab_base.proofs.Members.{Has-map, Has-mapped, Has-place, Has-get_or}
use Rattle.lab_ahead.specs.declared.tree.Step.{Step}
use Rattle.lab_ahead.specs.Givings.{need_at}
use Rattle.lab_ahead.specs.SearchTrees.{step_at}
use Rattle.lab_ahead.proofs.SortLaws.{names_before, names_kept, names_rising}
use Rattle.lab_ahead.proofs.fitting.kinds_reached.Goals as goal

pub returns-clause-rising : goal.returns-clause-rising
returns-clause-rising c =
    subst (λ (l : List (List ℕ)). IsStrictlySortedBy (slice_cmp nat_cmp) l) (sym c.from_vec.ensures)
    (names_rising c.loop-step.kinds.items c.sort.new.self.items c.dedup.new.self.items c.in_ok-sort.ensures.permutation c.dedup.ensures.filtered c.in_ok-sort.ensures.sorted)

pub returns-clause-all : goal.returns-clause-all
returns-clause-all c = λ n reached.
    let steps = c.args.steps.now in
    let kind = λ (s : Step). (need_at c.args.needs.now s.need).kind in
    let raw : c.loop-step.kinds.items ≡ map kind steps = c.loop-step.invariant ∙ ap (λ (l : List Step). map kind l) (take_all c.loop-step.step-index steps c.loop-step-test.false) in
    let at : Has (map kind steps) (kind (step_at steps reached.0)) = Has-mapped kind steps (step_at steps reached.0) (Has-get_or steps reached.0 (record { need = 0; position = 0; parent = 0 }) reached.1) in
    let named : Has (map kind steps) (need_at c.args.needs.now n).kind = subst (λ (m : ℕ). Has (map kind steps) (need_at c.args.needs.now m).kind) reached.2 at in
    subst (λ (l : List (List ℕ)). Has l (need_at c.args.needs.now n).kind) (sym c.from_vec.ensures)
    (names_kept c.loop-step.kinds.items c.sort.new.self.items c.dedup.new.self.items c.in_ok-sort.ensures.permutation c.dedup.ensures.filtered (need_at c.args.needs.now n).kind
    (subst (λ (l : List (List ℕ)). Has l (need_at c.args.needs.now n).kind) (sym raw) named))

pub returns-clause-only : goal.returns-clause-only
returns-clause-only c = λ kind has.
    let steps = c.args.steps.now in
    let kind_of = λ (s : Step). (need_at c.args.needs.now s.need).kind in
    let raw : c.loop-step.kinds.items ≡ map kind_of steps = c.loop-step.invariant ∙ ap (λ (l : List Step). map kind_of l) (take_all c.loop-step.step-index steps c.loop-step-test.false) in
    let before = names_before c.loop-step.kinds.items c.sort.new.self.items c.dedup.new.self.items c.in_ok-sort.ensures.permutation c.dedup.ensures.filtered kind
    (subst (λ (l : List (List ℕ)). Has l kind) c.from_vec.ensures has) in
    let from = Has-map kind_of steps kind (subst (λ (l : List (List ℕ)). Has l kind) raw before) in
    let place = Has-place steps from.0 (record { need = 0; position = 0; parent = 0 }) from.1 in
    (from.0.need, (place.0, place.1, ap (λ (s : Step). s.need) place.2), from.2)
