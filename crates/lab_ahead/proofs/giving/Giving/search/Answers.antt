use Rattle.std.proofs.Common.{◌≡◌, ◌<◌, ℕ, Option, MatchOption, length, ap, subst, ◌∙◌, inl, inr, arith}
use Rattle.std.proofs.lemmas.Bool.{cases_lt}
use Rattle.lab_ahead.specs.declared.tree.Step.{Step}
use Rattle.lab_ahead.specs.SearchTrees.{IsClosedAt, IsFree, owners_in, table_in}
use Rattle.lab_ahead.proofs.TreeLaws.{still_closed}
use Rattle.lab_ahead.proofs.giving.Giving.search.Goals as goal

pub loop-place-preserved : goal.loop-place-preserved
loop-place-preserved c =
    let table = table_in c.args.self.now in
    let owners = owners_in c.args.self.now in
    let now = c.in_ok-position.ensures in
    let steps = c.look.new.tree.steps.items in
    let here : IsClosedAt table owners steps c.loop-place.place =
    subst (λ (o : Option ℕ). MatchOption o (IsClosedAt table owners steps c.loop-place.place) (IsFree table owners steps c.loop-place.place)) c.in_default.is now.answer in
    record {
      tree = now.tree;
      start_is = ap (λ (s : Step). s.need) (now.extends.same 0 c.loop-place.invariant.tree.some) ∙ c.loop-place.invariant.start_is;
      closed = λ k lt there. elim (cases_lt k c.loop-place.place) [
        | inl h ↦ let old : k < length c.loop-place.tree.steps.items = omega (arith, c.loop-place-test.true, c.len.ensures) in still_closed table owners k now.extends old (c.loop-place.invariant.closed k h old)
        | inr h ↦ let same : c.loop-place.place ≡ k = omega arith in subst (λ (n : ℕ). IsClosedAt table owners steps n) same here
      ];
    }
