use Rattle.std.proofs.Common.{◌+◌}
use Rattle.journal_disk.proofs.Walking.{tail}
use Rattle.lab_sides.proofs.Stepping.{ends_there}
use Rattle.lab_sides.proofs.closed.behind.Goals as goal

pub returns-in-Ok-None : goal.returns-in-Ok-None
returns-in-Ok-None c =
    let h = rw c.in-Ok-None.field-0-is at c.in-Ok-None.ensures in
    let here = rw (tail c.args.bytes.now (c.gates.gate + 1)) at h in
    ends_there c.args.bytes.now c.args.from c.gates.gate c.gates.found c.gates.invariant.so_far here
