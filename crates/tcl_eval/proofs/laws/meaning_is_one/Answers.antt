use Rattle.tcl_eval.proofs.OneMeaning.{evals_once}
use Rattle.tcl_eval.proofs.OneRun.{runs_once}
use Rattle.tcl_eval.proofs.laws.meaning_is_one.Goals as goal

pub returns-clause-evals : goal.returns-clause-evals
returns-clause-evals g c = λ calls hears line. evals_once (calls line) hears

pub returns-clause-runs : goal.returns-clause-runs
returns-clause-runs g c = λ calls hears. runs_once calls hears
