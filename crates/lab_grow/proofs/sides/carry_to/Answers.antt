use Rattle.lab_grow.specs.Reasons.{is_moving}
use Rattle.lab_grow.proofs.sides.carry_to.Goals as goal

pub returns-in-Some : goal.returns-in-Some
returns-in-Some c = (c.in-Ok.new, c.in-Ok.ensures, is_moving c.in-Some.exp c.in-Some.ensures)
