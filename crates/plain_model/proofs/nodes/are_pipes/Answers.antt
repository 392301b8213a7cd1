use Rattle.std.proofs.Common.{arith, below_more, sym, ◌∙◌}
use Rattle.plain_model.specs.Cabling.{is_pipe}
use Rattle.plain_model.proofs.HoldsLaws.{pass_fails, pass_all}
use Rattle.plain_model.proofs.nodes.are_pipes.Goals as goal

pub returns-then-not-is_pipe : goal.returns-then-not-is_pipe
returns-then-not-is_pipe c = pass_fails _ (is_pipe c.args.commands.now c.args.name.now c.args.pipes.now) c.loop-number.number c.is_pipe.result (omega arith) c.is_pipe.ensures c.if-not-is_pipe.true c.loop-number.invariant

pub loop-number-preserved : goal.loop-number-preserved
loop-number-preserved c = below_more _ _ c.loop-number.invariant (sym c.is_pipe.ensures ∙ c.if-not-is_pipe.false)

pub returns : goal.returns
returns c = pass_all _ (is_pipe c.args.commands.now c.args.name.now c.args.pipes.now) c.loop-number.number (omega arith) c.loop-number.invariant
