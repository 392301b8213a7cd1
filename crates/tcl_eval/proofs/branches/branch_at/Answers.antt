use Rattle.std.proofs.Common.{arith}
use Rattle.tcl_eval.proofs.Branching.{one_left}
use Rattle.tcl_eval.proofs.branches.branch_at.Goals as goal

pub returns-then-left-eq1-clause-branch : goal.returns-then-left-eq1-clause-branch
returns-then-left-eq1-clause-branch c = one_left c.args.words.now c.args.at (omega arith)
