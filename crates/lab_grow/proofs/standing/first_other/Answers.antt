use Rattle.std.proofs.Common.{◌≡◌, ◌+◌, ℕ, suc, take, sym, subst, arith}
use Rattle.lab_base.proofs.Lists.{length_past}
use Rattle.lab_base.proofs.Members.{Has-slice_get}
use Rattle.lab_state.specs.Texts.{the_texts}
use Rattle.lab_grow.specs.Named.{AreStaying}
use Rattle.lab_grow.proofs.Suiting.{all_suit}
use Rattle.lab_grow.proofs.Walking.{same_length, same_at, stays_on, stays_all}
use Rattle.lab_grow.proofs.standing.first_other.Goals as goal

pub unreachable-requires-in_default-nth : goal.unreachable-requires-in_default-nth
unreachable-requires-in_default-nth c =
    let es = c.args.state.now.state.experiments in
    let fs = c.args.grown.now.state.experiments in
    let same = same_length the_texts c.args.old.now c.args.new.now es fs c.requires.grown.same in
    omega (arith, length_past fs c.loop-number.number (sym c.in_default-nth.ensures), c.loop-number-test.true, c.len-number-end.ensures, same)

pub stays-requires-clause-old : goal.stays-requires-clause-old
stays-requires-clause-old c =
    let s = c.args.state.now.state in
    all_suit s c.args.old.now c.lab-kept.ensures.sane c.requires.lab c.in-Some.own.now (Has-slice_get s.experiments c.loop-number.number c.in-Some.own.now (sym c.in-Some.ensures))

pub stays-requires-clause-new : goal.stays-requires-clause-new
stays-requires-clause-new c =
    let s = c.args.grown.now.state in
    all_suit s c.args.new.now c.requires.grown.sane c.requires.grown.lab c.in-Some-nth.other.now (Has-slice_get s.experiments c.loop-number.number c.in-Some-nth.other.now (sym c.in-Some-nth.ensures))

pub stays-requires-clause-same : goal.stays-requires-clause-same
stays-requires-clause-same c =
    same_at the_texts c.args.old.now c.args.new.now c.args.state.now.state.experiments c.args.grown.now.state.experiments c.loop-number.number c.in-Some.own.now c.in-Some-nth.other.now
    c.requires.grown.same (sym c.in-Some.ensures) (sym c.in-Some-nth.ensures)

pub other_link-requires-clause-old : goal.other_link-requires-clause-old
other_link-requires-clause-old c =
    let s = c.args.state.now.state in
    all_suit s c.args.old.now c.lab-kept.ensures.sane c.requires.lab c.in-Some.own.now (Has-slice_get s.experiments c.loop-number.number c.in-Some.own.now (sym c.in-Some.ensures))

pub other_link-requires-clause-new : goal.other_link-requires-clause-new
other_link-requires-clause-new c =
    let s = c.args.grown.now.state in
    all_suit s c.args.new.now c.requires.grown.sane c.requires.grown.lab c.in-Some-nth.other.now (Has-slice_get s.experiments c.loop-number.number c.in-Some-nth.other.now (sym c.in-Some-nth.ensures))

pub loop-number-preserved : goal.loop-number-preserved
loop-number-preserved c =
    let es = c.args.state.now.state.experiments in
    let fs = c.args.grown.now.state.experiments in
    let number = c.loop-number.number in
    let step : suc number ≡ number + 1 = omega arith in
    subst (λ (k : ℕ). AreStaying c.args.old.now c.args.new.now (take k es) (take k fs)) step
    (stays_on c.args.old.now c.args.new.now es fs number c.in-Some.own.now c.in-Some-nth.other.now (sym c.in-Some.ensures) (sym c.in-Some-nth.ensures)
    (c.in_ok-stays.ensures.0 c.if-not-branch.false) c.loop-number.invariant)

pub returns : goal.returns
returns c =
    let es = c.args.state.now.state.experiments in
    let fs = c.args.grown.now.state.experiments in
    let same = same_length the_texts c.args.old.now c.args.new.now es fs c.requires.grown.same in
    stays_all c.args.old.now c.args.new.now es fs c.loop-number.number (omega (arith, c.loop-number-test.false, c.len-number-end.ensures)) same c.loop-number.invariant
