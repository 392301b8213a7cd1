use Rattle.std.proofs.Common.{sym, subst}
use Rattle.std.proofs.lemmas.Result.{err_from_is_err_and}
use Rattle.lab_io.specs.Passed.{stand_of}
use Rattle.script_text.specs.declared.command.Command.{Command}
use Rattle.script_text.specs.declared.heads.Head.{Head}
use Rattle.script_text.specs.Commands.{command_at}
use Rattle.script_text.specs.Heads.{completed, both_completed}
use Rattle.script_text.specs.Taking.{Completes, IsBadAt, IsHalf, NoFurther}
use Rattle.script_text.proofs.Wholes.{block_completes, short_bad, cut_half, blocks_complete, first_short, second_short, first_cut, second_cut, whole_completes, block_no_further, first_no_further, second_no_further}
use Rattle.script_text.proofs.Taken.{on_error}
use Rattle.script_text.proofs.next.with_blocks.Goals as goal

pub returns-in-Whole-clause-command : goal.returns-in-Whole-clause-command
returns-in-Whole-clause-command g c ready =
    let at = stand_of c.args.lines.now (g.S.Source.left c.args.source.now) in
    subst (λ (h : Head). Completes at at h c.in-Whole.command) (sym c.in-Whole.is) (whole_completes at c.in-Whole.command ready.1)

pub returns-in_err-text-in-Block-clause-bad : goal.returns-in_err-text-in-Block-clause-bad
returns-in_err-text-in-Block-clause-bad g c ready line is =
    let p = err_from_is_err_and c.from_residual.result c.from_residual.ensures.1 in
    let at = stand_of c.args.lines.now (g.S.Source.left c.args.source.now) in
    let short = c.in_err-text-in-Block.ensures.bad ready line (cc (is, p.1, p.2)) in
    subst (λ (h : Head). IsBadAt at h line) (sym c.in-Block.is) (short_bad c.in-Block.what c.in-Block.count at line short)

pub returns-in_err-text-in-Block-clause-no_further : goal.returns-in_err-text-in-Block-clause-no_further
returns-in_err-text-in-Block-clause-no_further g c ready =
    let at = stand_of c.args.lines.now (g.S.Source.left c.args.source.now) in
    let new = stand_of c.take_block.new.lines (g.S.Source.left c.take_block.new.source) in
    let part = c.in_err-text-in-Block.ensures.no_longer ready in
    on_error c.from_residual.result (subst (λ (h : Head). NoFurther (command_at h) at new) (sym c.in-Block.is) (block_no_further c.in-Block.what c.in-Block.count at new part))

pub returns-in_err-text-in-Block-clause-unfinished : goal.returns-in_err-text-in-Block-clause-unfinished
returns-in_err-text-in-Block-clause-unfinished g c ready is =
    let p = err_from_is_err_and c.from_residual.result c.from_residual.ensures.1 in
    let at = stand_of c.args.lines.now (g.S.Source.left c.args.source.now) in
    let new = stand_of c.take_block.new.lines (g.S.Source.left c.take_block.new.source) in
    let cut = c.in_err-text-in-Block.ensures.cut ready (cc (is, p.1, p.2)) in
    subst (λ (h : Head). IsHalf at new h) (sym c.in-Block.is) (cut_half c.in-Block.what c.in-Block.count at new cut)

pub returns-in_ok-text-in-Block-clause-command : goal.returns-in_ok-text-in-Block-clause-command
returns-in_ok-text-in-Block-clause-command g c ready =
    let at = stand_of c.args.lines.now (g.S.Source.left c.args.source.now) in
    let new = stand_of c.take_block.new.lines (g.S.Source.left c.take_block.new.source) in
    let whole = block_completes c.in-Block.what c.in-Block.count at new c.in_ok-text-in-Block.text (c.in_ok-text-in-Block.ensures.block ready) in
    subst (λ (command : Command). Completes at new c.args.head command) (sym c.completed.ensures.command)
    (subst (λ (h : Head). Completes at new h (completed c.in-Block.what c.in-Block.count c.in_ok-text-in-Block.text)) (sym c.in-Block.is) whole)

pub returns-in_err-one-in-Blocks-clause-bad : goal.returns-in_err-one-in-Blocks-clause-bad
returns-in_err-one-in-Blocks-clause-bad g c ready line is =
    let p = err_from_is_err_and c.from_residual-in_err-one-in-Blocks.result c.from_residual-in_err-one-in-Blocks.ensures.1 in
    let at = stand_of c.args.lines.now (g.S.Source.left c.args.source.now) in
    let short = c.in_err-one-in-Blocks.ensures.bad ready line (cc (is, p.1, p.2)) in
    subst (λ (h : Head). IsBadAt at h line) (sym c.in-Blocks.is) (first_short c.in-Blocks.what c.in-Blocks.first c.in-Blocks.second at line short)

pub returns-in_err-one-in-Blocks-clause-no_further : goal.returns-in_err-one-in-Blocks-clause-no_further
returns-in_err-one-in-Blocks-clause-no_further g c ready =
    let at = stand_of c.args.lines.now (g.S.Source.left c.args.source.now) in
    let new = stand_of c.take_block-in-Blocks.new.lines (g.S.Source.left c.take_block-in-Blocks.new.source) in
    let part = c.in_err-one-in-Blocks.ensures.no_longer ready in
    on_error c.from_residual-in_err-one-in-Blocks.result (subst (λ (h : Head). NoFurther (command_at h) at new) (sym c.in-Blocks.is) (first_no_further c.in-Blocks.what c.in-Blocks.first c.in-Blocks.second at new part))

pub returns-in_err-one-in-Blocks-clause-unfinished : goal.returns-in_err-one-in-Blocks-clause-unfinished
returns-in_err-one-in-Blocks-clause-unfinished g c ready is =
    let p = err_from_is_err_and c.from_residual-in_err-one-in-Blocks.result c.from_residual-in_err-one-in-Blocks.ensures.1 in
    let at = stand_of c.args.lines.now (g.S.Source.left c.args.source.now) in
    let new = stand_of c.take_block-in-Blocks.new.lines (g.S.Source.left c.take_block-in-Blocks.new.source) in
    let cut = c.in_err-one-in-Blocks.ensures.cut ready (cc (is, p.1, p.2)) in
    subst (λ (h : Head). IsHalf at new h) (sym c.in-Blocks.is) (first_cut c.in-Blocks.what c.in-Blocks.first c.in-Blocks.second at new cut)

pub returns-in_err-other-in-Blocks-clause-bad : goal.returns-in_err-other-in-Blocks-clause-bad
returns-in_err-other-in-Blocks-clause-bad g c ready line is =
    let p = err_from_is_err_and c.from_residual-in_err-other-in-Blocks.result c.from_residual-in_err-other-in-Blocks.ensures.1 in
    let at = stand_of c.args.lines.now (g.S.Source.left c.args.source.now) in
    let mid = stand_of c.take_block-in-Blocks.new.lines (g.S.Source.left c.take_block-in-Blocks.new.source) in
    let first = c.in_ok-one-in-Blocks.ensures.block ready in
    let short = c.in_err-other-in-Blocks.ensures.bad (c.in_ok-one-in-Blocks.ensures.ok ready.0, first.passed.ends) line (cc (is, p.1, p.2)) in
    subst (λ (h : Head). IsBadAt at h line) (sym c.in-Blocks.is) (second_short c.in-Blocks.what c.in-Blocks.first c.in-Blocks.second at mid c.in_ok-one-in-Blocks.one line first short)

pub returns-in_err-other-in-Blocks-clause-no_further : goal.returns-in_err-other-in-Blocks-clause-no_further
returns-in_err-other-in-Blocks-clause-no_further g c ready =
    let at = stand_of c.args.lines.now (g.S.Source.left c.args.source.now) in
    let mid = stand_of c.take_block-in-Blocks.new.lines (g.S.Source.left c.take_block-in-Blocks.new.source) in
    let new = stand_of c.take_block-in-Blocks-2.new.lines (g.S.Source.left c.take_block-in-Blocks-2.new.source) in
    let first = c.in_ok-one-in-Blocks.ensures.block ready in
    let part = c.in_err-other-in-Blocks.ensures.no_longer (c.in_ok-one-in-Blocks.ensures.ok ready.0, first.passed.ends) in
    on_error c.from_residual-in_err-other-in-Blocks.result
    (subst (λ (h : Head). NoFurther (command_at h) at new) (sym c.in-Blocks.is) (second_no_further c.in-Blocks.what c.in-Blocks.first c.in-Blocks.second at mid new c.in_ok-one-in-Blocks.one first part))

pub returns-in_err-other-in-Blocks-clause-unfinished : goal.returns-in_err-other-in-Blocks-clause-unfinished
returns-in_err-other-in-Blocks-clause-unfinished g c ready is =
    let p = err_from_is_err_and c.from_residual-in_err-other-in-Blocks.result c.from_residual-in_err-other-in-Blocks.ensures.1 in
    let at = stand_of c.args.lines.now (g.S.Source.left c.args.source.now) in
    let mid = stand_of c.take_block-in-Blocks.new.lines (g.S.Source.left c.take_block-in-Blocks.new.source) in
    let new = stand_of c.take_block-in-Blocks-2.new.lines (g.S.Source.left c.take_block-in-Blocks-2.new.source) in
    let first = c.in_ok-one-in-Blocks.ensures.block ready in
    let cut = c.in_err-other-in-Blocks.ensures.cut (c.in_ok-one-in-Blocks.ensures.ok ready.0, first.passed.ends) (cc (is, p.1, p.2)) in
    subst (λ (h : Head). IsHalf at new h) (sym c.in-Blocks.is) (second_cut c.in-Blocks.what c.in-Blocks.first c.in-Blocks.second at mid new c.in_ok-one-in-Blocks.one first cut)

pub returns-in_ok-other-in-Blocks-clause-command : goal.returns-in_ok-other-in-Blocks-clause-command
returns-in_ok-other-in-Blocks-clause-command g c ready =
    let at = stand_of c.args.lines.now (g.S.Source.left c.args.source.now) in
    let mid = stand_of c.take_block-in-Blocks.new.lines (g.S.Source.left c.take_block-in-Blocks.new.source) in
    let new = stand_of c.take_block-in-Blocks-2.new.lines (g.S.Source.left c.take_block-in-Blocks-2.new.source) in
    let first = c.in_ok-one-in-Blocks.ensures.block ready in
    let second = c.in_ok-other-in-Blocks.ensures.block (c.in_ok-one-in-Blocks.ensures.ok ready.0, first.passed.ends) in
    let both = blocks_complete c.in-Blocks.what c.in-Blocks.first c.in-Blocks.second at mid new c.in_ok-one-in-Blocks.one c.in_ok-other-in-Blocks.other first second in
    subst (λ (command : Command). Completes at new c.args.head command) (sym c.completed-in-Blocks.ensures.command)
    (subst (λ (h : Head). Completes at new h (both_completed c.in-Blocks.what c.in-Blocks.first c.in_ok-one-in-Blocks.one c.in-Blocks.second c.in_ok-other-in-Blocks.other)) (sym c.in-Blocks.is) both)
