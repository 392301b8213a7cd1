use Rattle.std.proofs.Common.{arith, ◌≡◌, ◌∙◌, ℕ, true, inl, inr, refl, sym, subst}
use Rattle.std.proofs.lemmas.Bool.{cases_lt, false≢true}
use Rattle.lab_model.specs.Rules.{keeps_f7}
use Rattle.map_state.proofs.joints.all_keep_f7.Goals as goal

pub keeps_f7-requires-clause-search : goal.keeps_f7-requires-clause-search
keeps_f7-requires-clause-search c = c.requires.search

pub keeps_f7-requires-clause-shaped : goal.keeps_f7-requires-clause-shaped
keeps_f7-requires-clause-shaped c = c.requires.shaped

pub keeps_f7-requires-clause-segment : goal.keeps_f7-requires-clause-segment
keeps_f7-requires-clause-segment c = omega (arith, c.loop-segment-test.true, c.len-segment-end.ensures)

pub returns-then-not-keeps_f7 : goal.returns-then-not-keeps_f7
returns-then-not-keeps_f7 c = (
  λ is. absurd (false≢true is),
  λ all. sym c.if-not-keeps_f7.true ∙ c.keeps_f7.ensures ∙ all c.loop-segment.segment (omega (arith, c.loop-segment-test.true, c.len-segment-end.ensures)),
)

pub loop-segment-preserved : goal.loop-segment-preserved
loop-segment-preserved c =
    let x = c.args.search.now.mapper in
    let n = c.loop-segment.segment in
    record {
      kept = λ k lt. elim (cases_lt k n) [
        | inl below ↦ c.loop-segment.invariant.kept k below
        | inr above ↦ (
            let here : k ≡ n = omega (arith, above, lt) in
            subst (λ (j : ℕ). keeps_f7 x.lab.now x.wiring.now c.args.mapping.now j ≡ true) (sym here) (sym c.keeps_f7.ensures ∙ c.if-not-keeps_f7.false))
      ];
    }

pub returns : goal.returns
returns c = (
  λ is k lt. c.loop-segment.invariant.kept k (omega (arith, lt, c.loop-segment-test.false, c.len-segment-end.ensures)),
  λ all. refl,
)
