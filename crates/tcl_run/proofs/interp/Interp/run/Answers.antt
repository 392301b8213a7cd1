use Rattle.tcl_eval.specs.Machines.{seen}
use Rattle.tcl_run.proofs.interp.Interp.run.Goals as goal

pub returns-in-Err-clause-runs : goal.returns-in-Err-clause-runs
unfolding seen
returns-in-Err-clause-runs g c = λ free. rw (← c.self.view_is) c.in-Err.ensures.runs

pub returns-in_default-ran-clause-runs : goal.returns-in_default-ran-clause-runs
unfolding seen
returns-in_default-ran-clause-runs g c = λ free. rw (← c.self.view_is) c.run_text-ran.ensures.runs
