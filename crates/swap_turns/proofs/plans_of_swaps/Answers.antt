use Rattle.std.proofs.Common.{◌∙◌}
use Rattle.journal_rec.specs.declared.record.Way.TheVariants as ways
use Rattle.swap_txn.specs.States.{unsent}
use Rattle.swap_turns.proofs.Begins.{moves_in, moves_out, moves_over, unsent_over}
use Rattle.swap_turns.proofs.plans_of_swaps.Goals as goal

pub returns-clause-moves_in : goal.returns-clause-moves_in
returns-clause-moves_in c = λ s u was mapping tags short found out gives. moves_in s u was mapping tags short found out gives

pub returns-clause-moves_out : goal.returns-clause-moves_out
returns-clause-moves_out c = λ s u was mapping tags short found is_in gives. moves_out s u was mapping tags short found is_in gives

pub returns-clause-moves_over : goal.returns-clause-moves_over
returns-clause-moves_over c = λ s u was mapping tags wiring other others short found is_in gives. moves_over s u was mapping tags wiring other others short found is_in gives

pub returns-clause-plan_in : goal.returns-clause-plan_in
returns-clause-plan_in c = λ was mapping tags lab map plan back forth is plan_is back_is. is ∙ (λ i. unsent was.name (ways.In map tags) (plan_is i) (back_is i))

pub returns-clause-plan_out : goal.returns-clause-plan_out
returns-clause-plan_out c = λ was mapping tags lab plan back forth is plan_is. is ∙ (λ i. unsent was.name ways.Out (plan_is i) back)

pub returns-clause-plan_over : goal.returns-clause-plan_over
returns-clause-plan_over c = λ was mapping tags wiring other others lab way plan back forth over is plan_is back_is. is ∙ (λ i. unsent was.name way (plan_is i) (back_is i)) ∙ unsent_over was mapping tags wiring other others lab way over
