use Rattle.std.proofs.Common.{arith}
use Rattle.virt_topo.proofs.LoadLaws.{loads_step, loads_end}
use Rattle.virt_topo.proofs.loads.loads_of.Goals as goal

pub loop-number-preserved : goal.loop-number-preserved
loop-number-preserved c =
    loads_step c.args.segments.now c.loop-number.number c.index-segments-number.result c.loop-number.listed.items c.push_loads.new.listed.items (omega arith) c.index-segments-number.is c.in_ok-push_loads.ensures c.loop-number.invariant

pub returns : goal.returns
returns c = loads_end c.args.segments.now c.loop-number.number c.loop-number.listed.items (omega arith) c.loop-number.invariant
