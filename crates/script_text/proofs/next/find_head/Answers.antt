use Rattle.std.proofs.Common.{◌≡◌, ℕ, refl, sym, subst, ◌∙◌, arith}
use Rattle.lab_io.specs.Passed.{stand_of}
use Rattle.std.proofs.lemmas.Result.{err_from_is_err_and}
use Rattle.script_text.specs.Taking.{IsBad}
use Rattle.script_text.proofs.Taken.{none_skipped, skipped_on, begun_on, unknown_bad, skipped_unfinished, ended_skipped, skipped_within, line_within, on_error}
use Rattle.script_text.proofs.next.find_head.Goals as goal

pub lines-init : goal.lines-init
lines-init g c = record {
  fault = λ h. h;
  skipped = λ ready. none_skipped _ ready.1;
  later = omega arith;
  calm = refl;
  ahead = omega arith;
  taken = omega arith;
}

pub returns-in_err-take_line-clause-unfinished : goal.returns-in_err-take_line-clause-unfinished
returns-in_err-take_line-clause-unfinished g c ready is =
    let p = err_from_is_err_and c.from_residual.result c.from_residual.ensures.1 in
    let read = c.in_err-take_line.ensures.read (c.lines.invariant.fault ready.0) (cc (is, p.1, p.2)) in
    skipped_unfinished _ _ (stand_of c.take_line.new.lines (g.S.Source.left c.take_line.new.source)) (c.lines.invariant.skipped ready) read.2 c.in_err-take_line.ensures.err

pub returns-in_err-said_in-in-Some-clause-no_further : goal.returns-in_err-said_in-in-Some-clause-no_further
returns-in_err-said_in-in-Some-clause-no_further g c ready =
    let some = rw c.in-Some.is at c.in_ok-take_line.ensures.some in
    on_error c.from_residual-in_err-said_in-in-Some.result (line_within _ _ _ _ (c.lines.invariant.skipped ready) some)

pub returns-in_err-take_line-clause-no_further : goal.returns-in_err-take_line-clause-no_further
returns-in_err-take_line-clause-no_further g c ready = on_error c.from_residual.result (skipped_within _ _ (stand_of c.take_line.new.lines (g.S.Source.left c.take_line.new.source)) (c.lines.invariant.skipped ready) c.in_err-take_line.ensures.err)

pub returns-in-None-clause-none : goal.returns-in-None-clause-none
returns-in-None-clause-none g c ready =
    let skipped = c.lines.invariant.skipped ready in
    let none = rw c.in-None.is at c.in_ok-take_line.ensures.none (c.lines.invariant.fault ready.0, skipped.passed.ends) in
    (ended_skipped _ _ _ skipped none.0, none.1)

pub returns-in-Unknown-clause-bad : goal.returns-in-Unknown-clause-bad
returns-in-Unknown-clause-bad g c ready line is =
    let some = rw c.in-Some.is at c.in_ok-take_line.ensures.some in
    let said = sym c.in_ok-said_in-in-Some.ensures.said ∙ c.in-Unknown.is in
    let number : c.lines-in-Unknown.result ≡ line = cc is in
    subst (λ (n : ℕ). IsBad (stand_of c.args.lines.now (g.S.Source.left c.args.source.now)) n) (sym c.lines-in-Unknown.ensures ∙ number) (unknown_bad _ _ _ _ (c.lines.invariant.skipped ready) some said)

pub returns-in-Unknown-clause-no_further : goal.returns-in-Unknown-clause-no_further
returns-in-Unknown-clause-no_further g c ready =
    let some = rw c.in-Some.is at c.in_ok-take_line.ensures.some in
    line_within _ _ _ _ (c.lines.invariant.skipped ready) some

pub returns-in-Begins-clause-some : goal.returns-in-Begins-clause-some
returns-in-Begins-clause-some g c ready =
    let some = rw c.in-Some.is at c.in_ok-take_line.ensures.some in
    let said = sym c.in_ok-said_in-in-Some.ensures.said ∙ c.in-Begins.is in
    begun_on _ _ _ _ (c.lines.invariant.skipped ready) some c.in-Begins.head said

pub lines-preserved : goal.lines-preserved
lines-preserved g c =
    let some = rw c.in-Some.is at c.in_ok-take_line.ensures.some in
    let more = rw c.in-Some.is at c.in_ok-take_line.ensures.more in
    let said = sym c.in_ok-said_in-in-Some.ensures.said ∙ c.in-Skipped.is in record {
      fault = λ h. c.in_ok-take_line.ensures.ok;
      skipped = λ ready. skipped_on _ _ _ _ (c.lines.invariant.skipped ready) some said;
      later = omega (arith, c.lines.invariant.later, c.take_line.ensures.later);
      calm = c.in_ok-take_line.ensures.calm (λ is. absurd (cc is)) ∙ c.lines.invariant.calm;
      ahead = omega (arith, c.lines.invariant.ahead, c.take_line.ensures.ahead);
      taken = omega (arith, c.lines.invariant.taken, more);
    }
