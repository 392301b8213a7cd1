use Rattle.std.proofs.Common.{arith}
use Rattle.phys_lab.proofs.TrunkCount.{few_trunks}
use Rattle.trunk_sums.proofs.start.use_of.Goals as goal

pub overflow_cast-trunk : goal.overflow_cast-trunk
overflow_cast-trunk c = omega (arith, few_trunks c.args.lab.now c.range-kept.ensures.lab)
