-- The two sides of the disk.
use Rattle.plant.specs.declared.step.Side.{Side}
use Rattle.plant.specs.declared.step.Side.TheVariants.{A, B}

-- what belongs to a side, of what belongs to each
abbrev pub of_side : {X : Type 0} → Side → X → X → X
of_side A a b = a
of_side B a b = b
