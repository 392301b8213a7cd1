use Rattle.std.proofs.Common.{length, ap, arith}
use Rattle.plain_model.specs.Holds.{has_room}
use Rattle.plain_model.proofs.HoldsLaws.{pass_fails, pass_all}
use Rattle.plain_model.proofs.uses.have_room.Goals as goal

pub returns-then-not-has_room : goal.returns-then-not-has_room
returns-then-not-has_room c = pass_fails _ (has_room c.args.lab.now c.args.experiments.now) c.loop-trunk.trunk c.has_room.result (omega (arith, ap length c.trunks-trunk-end.ensures.list)) c.has_room.ensures c.if-not-has_room.true c.loop-trunk.invariant

pub returns : goal.returns
returns c = pass_all _ (has_room c.args.lab.now c.args.experiments.now) c.loop-trunk.trunk (omega (arith, ap length c.trunks-trunk-end.ensures.list)) c.loop-trunk.invariant
