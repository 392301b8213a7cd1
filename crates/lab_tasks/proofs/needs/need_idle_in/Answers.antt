use Rattle.lab_tasks.proofs.JudgeSwap.{is_there}
use Rattle.lab_tasks.proofs.needs.need_idle_in.Goals as goal

pub returns-clause-inside : goal.returns-clause-inside
returns-clause-inside c = record {
  there = is_there c.args.present.now.state.now.state c.args.exp c.in_ok-lab.lab.now c.in_ok-experiment.experiment.now c.in_ok-lab.ensures.lab c.in_ok-experiment.ensures.found c.need_lab.ensures.sane;
  inside = c.in_ok-mapping.ensures.inside;
}
