use Rattle.complete.proofs.WholeRuns.{ends_bad, whole}
use Rattle.complete.proofs.laws.completeness.Goals as goal

pub returns-clause-done : goal.returns-clause-done
returns-clause-done c = whole

pub returns-clause-bad : goal.returns-clause-bad
returns-clause-bad c = ends_bad
