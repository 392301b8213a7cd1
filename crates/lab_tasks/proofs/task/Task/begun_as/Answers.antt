use Rattle.lab_tasks.proofs.JudgeSwap.{begun_same}
use Rattle.lab_tasks.proofs.task.Task.begun_as.Goals as goal

pub returns-in_default-clause-task : goal.returns-in_default-clause-task
returns-in_default-clause-task c = rw c.if-not-only_begin.false (begun_same c.args.self c.in_default.not-Swap)
