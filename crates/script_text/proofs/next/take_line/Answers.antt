use Rattle.std.proofs.Common.{◌≡◌, ◌^◌, ◌≤◌, false, subst}
use Rattle.lab_io.specs.Passed.{stand_of}
use Rattle.lab_io.specs.Taken.{ended_of, taken_of}
use Rattle.lab_io.proofs.Passing.{passed_one}
use Rattle.script_text.proofs.Taken.{ok_no_fault, not_true, by_cases, ended_none, end_none, long_none}
use Rattle.script_text.proofs.next.take_line.Goals as goal

pub returns-in-Ok-Text-clause-some : goal.returns-in-Ok-Text-clause-some
returns-in-Ok-Text-clause-some g c =
    let no_fault = ok_no_fault _ _ c.in-Ok-Text.field-0 c.in-Ok-Text.is c.next.ensures.again in
    let more : ended_of c.args.lines.now ≡ false = not_true _ (λ h. let e = c.next.ensures.ended h no_fault in absurd (cc (e.0, c.in-Ok-Text.is, c.in-Ok-Text.field-0-is))) in
    let took = rw c.in-Ok-Text.field-0-is at c.in-Ok-Text.ensures.took more in
    let number = rw c.in-Ok-Text.field-0-is at c.in-Ok-Text.ensures.number in
    passed_one _ _ c.in-Ok-Text.text more took number

pub returns-in-Ok-Text-clause-short : goal.returns-in-Ok-Text-clause-short
returns-in-Ok-Text-clause-short g c =
    let no_fault = ok_no_fault _ _ c.in-Ok-Text.field-0 c.in-Ok-Text.is c.next.ensures.again in
    let more : ended_of c.args.lines.now ≡ false = not_true _ (λ h. let e = c.next.ensures.ended h no_fault in absurd (cc (e.0, c.in-Ok-Text.is, c.in-Ok-Text.field-0-is))) in
    let took = rw c.in-Ok-Text.field-0-is at c.in-Ok-Text.ensures.took more in
    took.short

pub returns-in-Ok-End-clause-none : goal.returns-in-Ok-End-clause-none
returns-in-Ok-End-clause-none g c ready =
    let old = stand_of c.args.lines.now (g.S.Source.left c.args.source.now) in
    let new = stand_of c.next.new.self (g.S.Source.left c.next.new.source) in
    by_cases (ended_of c.args.lines.now)
    (λ is. let e = c.next.ensures.ended is ready.0 in ended_none old new ready.1 is (λ i. stand_of (e.2 i) (g.S.Source.left (e.3 i))))
    (λ is.
    let took = rw c.in-Ok-End.field-0-is at c.in-Ok-End.ensures.took is in
    let number = rw c.in-Ok-End.field-0-is at c.in-Ok-End.ensures.number in
    end_none old new took.0 took.1 took.2 took.3 number)

pub returns-in-Err-TooLong-clause-bad : goal.returns-in-Err-TooLong-clause-bad
returns-in-Err-TooLong-clause-bad g c no_fault line is =
    let long = c.next.ensures.long line (cc (c.in-Err-TooLong.is, c.in-Err-TooLong.field-0-is, is)) no_fault in
    let within : taken_of c.args.lines.now ≤ 2 ^ 32 = subst (λ n. n ≤ 2 ^ 32) c.in-Err-TooLong.ensures.uncounted.1 c.next.ensures.within in
    (long.0, long_none (stand_of c.args.lines.now (g.S.Source.left c.args.source.now)) within long.2)
