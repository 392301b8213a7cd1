use Rattle.lab_judge.proofs.Shown.{judged_listed}
use Rattle.lab_judge.proofs.command.judge_status.Goals as goal

pub returns-clause-judged : goal.returns-clause-judged
returns-clause-judged c =
    judged_listed c.args.state.now.state c.in-Some.claims.now c.in_ok-_lab._lab.now c.in_ok-experiments.experiments c.counted-nodes.result.0 c.counted-nodes.result.1 c.need_lab.ensures.sane c.in_ok-_lab.ensures.lab c.in-Some.ensures.claims c.in_ok-experiments.ensures c.counted-nodes.ensures.nodes c.counted-nodes.ensures.ids
