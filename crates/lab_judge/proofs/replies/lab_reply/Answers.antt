use Rattle.std.proofs.Common.{length, ap, arith}
use Rattle.phys_lab.proofs.TrunkCount.{few_trunks}
use Rattle.lab_judge.proofs.replies.lab_reply.Goals as goal

pub overflow_cast-result-3 : goal.overflow_cast-result-3
overflow_cast-result-3 c = omega (arith, ap length c.trunks.ensures.list, few_trunks c.args.lab.now c.range-kept.ensures.lab)
