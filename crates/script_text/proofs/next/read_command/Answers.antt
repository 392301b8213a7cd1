use Rattle.std.proofs.lemmas.Result.{err_from_is_err_and}
use Rattle.lab_io.specs.Passed.{stand_of}
use Rattle.script_text.proofs.Taken.{on_error}
use Rattle.script_text.proofs.Wholes.{command_next, end_next, begun_bad, half_unfinished, begun_no_further}
use Rattle.script_text.proofs.next.read_command.Goals as goal

pub returns-in_err-command-in-Some-clause-bad : goal.returns-in_err-command-in-Some-clause-bad
returns-in_err-command-in-Some-clause-bad g c ready line is =
    let p = err_from_is_err_and c.from_residual-in_err-command-in-Some.result c.from_residual-in_err-command-in-Some.ensures.1 in
    let begun = rw c.in-Some.is at c.in_ok-find_head.ensures.some ready in
    let at = stand_of c.find_head.new.lines (g.S.Source.left c.find_head.new.source) in
    begun_bad _ at c.in-Some.head line begun (c.in_err-command-in-Some.ensures.bad (c.in_ok-find_head.ensures.ok, begun.passed.ends) line (cc (is, p.1, p.2)))

pub returns-in_err-command-in-Some-clause-no_further : goal.returns-in_err-command-in-Some-clause-no_further
returns-in_err-command-in-Some-clause-no_further g c ready =
    let begun = rw c.in-Some.is at c.in_ok-find_head.ensures.some ready in
    let new = stand_of c.with_blocks.new.lines (g.S.Source.left c.with_blocks.new.source) in
    on_error c.from_residual-in_err-command-in-Some.result (begun_no_further _ _ new c.in-Some.head begun (c.in_err-command-in-Some.ensures.no_further (c.in_ok-find_head.ensures.ok, begun.passed.ends)))

pub returns-in_err-command-in-Some-clause-unfinished : goal.returns-in_err-command-in-Some-clause-unfinished
returns-in_err-command-in-Some-clause-unfinished g c ready is =
    let p = err_from_is_err_and c.from_residual-in_err-command-in-Some.result c.from_residual-in_err-command-in-Some.ensures.1 in
    let begun = rw c.in-Some.is at c.in_ok-find_head.ensures.some ready in
    half_unfinished _ _ (stand_of c.with_blocks.new.lines (g.S.Source.left c.with_blocks.new.source)) c.in-Some.head begun (c.in_err-command-in-Some.ensures.unfinished (c.in_ok-find_head.ensures.ok, begun.passed.ends) (cc (is, p.1, p.2)))

pub returns-in-None-clause-next : goal.returns-in-None-clause-next
returns-in-None-clause-next g c ready =
    let none = rw c.in-None.is at c.in_ok-find_head.ensures.none ready in
    end_next _ (stand_of c.find_head.new.lines (g.S.Source.left c.find_head.new.source)) none.0 none.1

pub returns-in_ok-command-in-Some-clause-next : goal.returns-in_ok-command-in-Some-clause-next
returns-in_ok-command-in-Some-clause-next g c ready =
    let begun = rw c.in-Some.is at c.in_ok-find_head.ensures.some ready in
    command_next _ _ (stand_of c.with_blocks.new.lines (g.S.Source.left c.with_blocks.new.source)) c.in-Some.head c.in_ok-command-in-Some.command begun (c.in_ok-command-in-Some.ensures.command (c.in_ok-find_head.ensures.ok, begun.passed.ends))
