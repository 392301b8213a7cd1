use Rattle.trunk_sums.specs.Between.{AreBetween}
use Rattle.trunk_sums.proofs.table.between.Given as goal

abbrev pub invariant-loop-number : goal.invariant-loop-number
invariant-loop-number l = AreBetween l.lab l.from.0 l.to.0 l.number l.listed
