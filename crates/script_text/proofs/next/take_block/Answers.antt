use Rattle.std.proofs.Common.{ℕ, List, [], ◌++◌, refl, sym, ap, subst, ◌∙◌, arith}
use Rattle.lab_io.specs.Passed.{stand_of}
use Rattle.script_text.specs.Taking.{Blocked}
use Rattle.script_text.specs.Blocks.{IsBlock}
use Rattle.script_text.proofs.Blocks.{none_blocked, blocked_on, none_block, block_on, no_longer, one_longer}
use Rattle.script_text.proofs.Taken.{on_error}
use Rattle.script_text.proofs.next.take_block.Goals as goal

pub loop-number-init : goal.loop-number-init
loop-number-init g c =
    let at = stand_of c.args.lines.now (g.S.Source.left c.args.source.now) in record {
      fault = λ h. h;
      block = λ ready. subst (λ (t : List ℕ). Blocked at at 0 t) (sym c.new-block.ensures) (none_blocked at ready.1);
      lines = λ few. subst (λ (t : List ℕ). IsBlock 0 t) (sym c.new-block.ensures) none_block;
      later = omega arith;
      calm = refl;
      ahead = omega arith;
      taken = omega arith;
    }

pub returns-in_err-take_line-clause-no_longer : goal.returns-in_err-take_line-clause-no_longer
returns-in_err-take_line-clause-no_longer g c ready =
    let block = c.loop-number.invariant.block ready in
    on_error c.from_residual.result (no_longer _ _ (stand_of c.take_line.new.lines (g.S.Source.left c.take_line.new.source)) c.loop-number._number c.args.count c.loop-number.block block (omega arith) c.in_err-take_line.ensures.err)

pub returns-in-None-clause-no_longer : goal.returns-in-None-clause-no_longer
returns-in-None-clause-no_longer g c ready =
    let block = c.loop-number.invariant.block ready in
    let none = rw c.in-None.is at c.in_ok-take_line.ensures.none (c.loop-number.invariant.fault ready.0, block.passed.ends) in
    one_longer _ _ _ c.loop-number._number c.args.count c.loop-number.block [] block none.0 (omega arith)

pub returns-in_err-push_bytes-in-Some-clause-no_longer : goal.returns-in_err-push_bytes-in-Some-clause-no_longer
returns-in_err-push_bytes-in-Some-clause-no_longer g c ready =
    let some = rw c.in-Some.is at c.in_ok-take_line.ensures.some in
    on_error c.from_residual-in_err-push_bytes-in-Some.result (one_longer _ _ _ c.loop-number._number c.args.count c.loop-number.block _ (c.loop-number.invariant.block ready) some (omega arith))

pub returns-in_err-push-in-Some-clause-no_longer : goal.returns-in_err-push-in-Some-clause-no_longer
returns-in_err-push-in-Some-clause-no_longer g c ready =
    let some = rw c.in-Some.is at c.in_ok-take_line.ensures.some in
    on_error c.from_residual-in_err-push-in-Some.result (one_longer _ _ _ c.loop-number._number c.args.count c.loop-number.block _ (c.loop-number.invariant.block ready) some (omega arith))

pub loop-number-preserved : goal.loop-number-preserved
loop-number-preserved g c =
    let some = rw c.in-Some.is at c.in_ok-take_line.ensures.some in
    let short = rw c.in-Some.is at c.in_ok-take_line.ensures.short in
    let more = rw c.in-Some.is at c.in_ok-take_line.ensures.more in
    let with_line = c.in_ok-push_bytes-in-Some.ensures.ok ∙ ap (λ (l : List ℕ). c.loop-number.block ++ l) c.bytes.ensures in record {
      fault = λ h. c.in_ok-take_line.ensures.ok;
      block = λ ready. blocked_on _ _ _ c.loop-number._number c.loop-number.block c.push_bytes.new.self _ c.in-Some.line (c.loop-number.invariant.block ready) some with_line c.in_ok-push-in-Some.ensures.ok;
      lines = λ few. block_on c.loop-number._number c.loop-number.block c.push_bytes.new.self _ c.in-Some.line (c.loop-number.invariant.lines few) (omega (arith, few)) short with_line c.in_ok-push-in-Some.ensures.ok;
      later = omega (arith, c.loop-number.invariant.later, c.take_line.ensures.later);
      calm = c.in_ok-take_line.ensures.calm (λ is. absurd (cc is)) ∙ c.loop-number.invariant.calm;
      ahead = omega (arith, c.loop-number.invariant.ahead, c.take_line.ensures.ahead);
      taken = omega (arith, c.loop-number.invariant.taken, more);
    }
