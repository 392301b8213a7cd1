use Rattle.std.proofs.Common.{arith}
use Rattle.plant_mem.proofs.Images.{garbled_nothing}
use Rattle.plant_mem.proofs.mem_side.garble.Goals as goal

pub returns-else-from-end-clause-garbled : goal.returns-else-from-end-clause-garbled
returns-else-from-end-clause-garbled c = garbled_nothing c.args.bytes.now.items c.args.from c.args.end (omega (arith, c.args.bytes.now.ok.0))
