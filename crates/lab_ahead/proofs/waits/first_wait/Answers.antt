use Rattle.std.proofs.Common.{◌≡◌, ℕ, List, Option, Some, None, IfSome, get_or, inl, inr, refl, sym, subst, arith, ◌∙◌}
use Rattle.std.specs.Ordering.{nat_cmp}
use Rattle.std.specs.List.Sorted.{IsStrictlySortedBy}
use Rattle.std.proofs.lemmas.Bool.{cases_lt}
use Rattle.lab_base.specs.Lists.{Has}
use Rattle.lab_base.proofs.Members.{Has-place}
use Rattle.phys_lab.specs.Labs.{Lab}
use Rattle.lab_ahead.specs.declared.batch.Promise.{Promise}
use Rattle.lab_ahead.specs.declared.waits.Wait.{Wait}
use Rattle.lab_ahead.specs.Moments.{FitsAt}
use Rattle.lab_ahead.specs.Waits.{TellsShort}
use Rattle.lab_ahead.proofs.WaitLaws.{first_short, no_wait, not_for}
use Rattle.lab_ahead.proofs.waits.first_wait.Goals as goal

pub returns-in-Some-clause-fits : goal.returns-in-Some-clause-fits
returns-in-Some-clause-fits c =
    let items = c.as_slice-at-items.result.now in
    let same = c.as_slice-at-items.ensures in
    let exact = c.in_ok-tested.ensures.exact in
    let at = get_or items c.loop-at.at-index 0 in
    let served = c.in_ok-served.served in
    let fits_here : FitsAt c.args.lab.now c.args.left.now c.args.promises.now at → FitsAt served.lab.now c.args.left.now served.promises.now at =
    λ f. subst (λ (l : Lab). FitsAt l c.args.left.now served.promises.now at) (sym c.in_ok-served.ensures.lab)
    (subst (λ (p : List Promise). FitsAt c.args.lab.now c.args.left.now p at) (sym c.in_ok-served.ensures.promises) f) in
    let rising = subst (λ (l : List ℕ). IsStrictlySortedBy nat_cmp l) (sym same) c.in_ok-tested.ensures.rising in (
      λ none. absurd (cc none),
      λ fits. absurd (not_for c.args.lab.now c.args.left.now c.args.promises.now c.args.span items rising (λ t h. subst (λ (l : List ℕ). Has l t) (sym same) ((exact t).1 h)) (λ t h. (exact t).0 (subst (λ (l : List ℕ). Has l t) same h))
          c.loop-at.at-index c.loop-at-test.true (λ f. let both : Some c.in-Some.wait ≡ None = sym c.in-Some.is ∙ c.in_ok-wait.ensures.fits.1 (fits_here f) in absurd (cc both)) fits),
    )

pub returns-in-Some-clause-waits : goal.returns-in-Some-clause-waits
returns-in-Some-clause-waits c =
    let lab = c.args.lab.now in
    let left = c.args.left.now in
    let promises = c.args.promises.now in
    let items = c.as_slice-at-items.result.now in
    let i = c.loop-at.at-index in
    let same = c.as_slice-at-items.ensures in
    let exact = c.in_ok-tested.ensures.exact in
    let rising = subst (λ (l : List ℕ). IsStrictlySortedBy nat_cmp l) (sym same) c.in_ok-tested.ensures.rising in
    let served = c.in_ok-served.served in
    let told = subst (λ (o : Option Wait). IfSome o (λ w. (w.at ≡ get_or items i 0) × TellsShort served.lab.now left served.promises.now w)) c.in-Some.is c.in_ok-wait.ensures.waits in
    let tells : TellsShort lab left promises c.in-Some.wait =
    subst (λ (l : Lab). TellsShort l left promises c.in-Some.wait) c.in_ok-served.ensures.lab
    (subst (λ (p : List Promise). TellsShort served.lab.now left p c.in-Some.wait) c.in_ok-served.ensures.promises told.1) in
    first_short lab left promises c.args.span items rising (λ t h. subst (λ (l : List ℕ). Has l t) (sym same) ((exact t).1 h)) (λ t h. (exact t).0 (subst (λ (l : List ℕ). Has l t) same h))
    i c.in-Some.wait c.loop-at-test.true c.loop-at.invariant told.0 tells

pub loop-at-preserved : goal.loop-at-preserved
loop-at-preserved c = λ k lt.
    let items = c.as_slice-at-items.result.now in
    let i = c.loop-at.at-index in
    elim (cases_lt k i) [
      | inl before ↦ c.loop-at.invariant k before
      | inr from ↦
          let here : i ≡ k = omega (arith, lt, from) in
          let served = c.in_ok-served.served in
          let fits = c.in_ok-wait.ensures.fits.0 (no_wait c.in_ok-wait.field-0 c.in_default.not-Some) in
          let of_lab : FitsAt c.args.lab.now c.args.left.now served.promises.now (get_or items i 0) =
          subst (λ (l : Lab). FitsAt l c.args.left.now served.promises.now (get_or items i 0)) c.in_ok-served.ensures.lab fits in
          let of_promises : FitsAt c.args.lab.now c.args.left.now c.args.promises.now (get_or items i 0) =
          subst (λ (p : List Promise). FitsAt c.args.lab.now c.args.left.now p (get_or items i 0)) c.in_ok-served.ensures.promises of_lab in
          subst (λ (m : ℕ). FitsAt c.args.lab.now c.args.left.now c.args.promises.now (get_or items m 0)) here of_promises
    ]

pub returns-clause-fits : goal.returns-clause-fits
returns-clause-fits c =
    let lab = c.args.lab.now in
    let left = c.args.left.now in
    let promises = c.args.promises.now in
    let items = c.as_slice-at-items.result.now in (
      λ _. c.in_ok-tested.ensures.enough lab left (λ t h.
          let place = Has-place items t 0 (subst (λ (l : List ℕ). Has l t) (sym c.as_slice-at-items.ensures) h) in
          subst (λ (m : ℕ). FitsAt lab left promises m) place.2 (c.loop-at.invariant place.0 (omega (arith, place.1, c.loop-at-test.false)))),
      λ _. refl,
    )
