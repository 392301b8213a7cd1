use Rattle.std.proofs.Common.{◌≡◌, ◌<◌, ◌∙◌, ◌+◌, ◌++◌, ◌∷◌, [], ℕ, List, length, get_or, Contains, refl, sym, ap, subst, length-append, arith}
use Rattle.lab_model.specs.Shapes.{Place}
use Rattle.assign_core.specs.Bests.{IsPartial}
use Rattle.assign_core.proofs.Choosing.{partial_more, partial_whole}
use Rattle.assign_core.proofs.begin.first_places.Goals as goal

none_of : (xs : List Place) → length xs ≡ 0 → xs ≡ []
none_of [] is = refl
none_of (x ∷ xs) is = absurd (omega (arith, is))

pub loop-virt-preserved : goal.loop-virt-preserved
loop-virt-preserved c =
    let cs = c.args.listed.now in
    let places = c.loop-virt.places in
    let n = c.loop-virt.virt in
    let p : Place = c.at.result.now in
    let known = c.loop-virt.invariant in
    let lt : n < length cs = omega (arith, c.loop-virt-test.true, c.len-virt-end.ensures) in
    let fewer : length places < length cs = omega (arith, lt, known.count) in
    let At : ℕ → Type 0 = λ k. Contains (get_or cs k []) p in
    let among : Contains (get_or cs (length places) []) p = subst At (sym known.count) c.at.ensures.among in
    let grown : c.push.new.self ≡ places ++ p ∷ [] = c.in_ok-push.ensures.ok in
    record {
      partial = subst (λ (l : List Place). IsPartial cs l) (sym grown) (partial_more cs places p known.partial fewer among);
      count = ap length grown ∙ length-append places (p ∷ []) ∙ ap (λ (k : ℕ). k + 1) known.count;
    }

pub returns-clause-choice : goal.returns-clause-choice
returns-clause-choice c =
    let cs = c.args.listed.now in
    let known = c.loop-virt.invariant in
    partial_whole cs c.loop-virt.places known.partial (omega (arith, c.loop-virt-test.false, c.loop-virt.auto.virt-end, c.len-virt-end.ensures, known.count))

pub returns-then-count-eq0-clause-none : goal.returns-then-count-eq0-clause-none
returns-then-count-eq0-clause-none c = λ is. record {
  virt = c.loop-virt.virt;
  within = omega (arith, c.loop-virt-test.true, c.len-virt-end.ensures);
  none = none_of (get_or c.args.listed.now c.loop-virt.virt []) (omega (arith, c.count.ensures, c.if-count-eq0.true));
}
