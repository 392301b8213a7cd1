use Rattle.std.proofs.Common.{false, length}
use Rattle.lab_tasks.specs.OpenNames.{has_open}
use Rattle.lab_judge.specs.JudgeRun.{space_in}
use Rattle.lab_judge.specs.Serving.{JudgedTest}
use Rattle.lab_judge.proofs.Judgements.{slot_so}
use Rattle.lab_judge.proofs.run.judge_run.Goals as goal

pub returns-clause-judged : goal.returns-clause-judged
returns-clause-judged g c =
    let queue = c.args.queue.now in
    slot_so (length c.args.present.now.swaps.now) false
    (JudgedTest c.args.rule.now.number queue.moment queue.promises queue.ends c.args.run.now (λ entry. space_in c.args.space entry) c.args.present.now.state.now.state (has_open c.args.present.now.swaps.now c.args.run.now.exp)) c.judge_test-judged.result c.in_slot.result
    c.judge_test-judged.ensures.judged c.in_slot.ensures.judged

pub returns-clause-can : goal.returns-clause-can
returns-clause-can g c = c.in_slot.ensures.can c.args.present.now.state.now.state c.judge_test-judged.ensures.can
