use Rattle.tcl_eval.specs.Evals.{answered, unknown, stops, host_fails}
use Rattle.tcl_eval.proofs.machine.Machine.run_host.Goals as goal

pub returns-in-Ok-Value-clause-evals : goal.returns-in-Ok-Value-clause-evals
returns-in-Ok-Value-clause-evals g c = λ l. answered c.requires.own (rw c.in-Ok-Value.field-0-is at c.in-Ok-Value.ensures)

pub returns-in-Ok-NotMine-clause-evals : goal.returns-in-Ok-NotMine-clause-evals
returns-in-Ok-NotMine-clause-evals g c = λ l. unknown c.requires.own (rw c.in-Ok-NotMine.field-0-is at c.in-Ok-NotMine.ensures)

pub returns-in-Ok-Stop-clause-evals : goal.returns-in-Ok-Stop-clause-evals
returns-in-Ok-Stop-clause-evals g c = λ l. stops c.requires.own (rw c.in-Ok-Stop.field-0-is at c.in-Ok-Stop.ensures)

pub returns-in-Err-Kind-clause-evals : goal.returns-in-Err-Kind-clause-evals
returns-in-Err-Kind-clause-evals g c = λ l. host_fails c.requires.own (rw c.in-Err-Kind.field-0-is at c.in-Err-Kind.ensures)
