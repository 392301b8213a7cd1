use Rattle.lab_tasks.proofs.JudgeTasks.{stands_sound}
use Rattle.lab_judge.proofs.command.judge_show.Goals as goal

pub shown-requires : goal.shown-requires
shown-requires c = λ mapping tags phase.
    (stands_sound c.args.state.now.state c.args.exp c.in_ok-lab.lab.now c.in_ok-experiment.experiment.now mapping tags c.need_lab.ensures.sane c.in_ok-lab.ensures.lab c.in_ok-experiment.ensures.found phase).1
