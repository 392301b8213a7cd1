use Rattle.trunk_sums.specs.Between.{AreSides}
use Rattle.trunk_sums.proofs.table.sides_at.Given as goal

abbrev pub invariant-loop-number : goal.invariant-loop-number
invariant-loop-number l = AreSides l.lab l.switch.0 l.number l.sides
