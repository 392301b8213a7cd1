use Rattle.std.proofs.Common.{◌≡◌, length}
use Rattle.search_rows.proofs.problem.kbps_of.Given as goal

abbrev pub invariant-loop-trunk : goal.invariant-loop-trunk
invariant-loop-trunk l = length l.kbps.items ≡ l.trunk-index
