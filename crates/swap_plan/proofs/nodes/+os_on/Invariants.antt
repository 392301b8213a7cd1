use Rattle.std.proofs.Common.{length}
use Rattle.swap_plan.proofs.nodes.+os_on.Given as goal

abbrev pub decreases-os_on : goal.decreases-os_on
decreases-os_on l = length l.virts.now
