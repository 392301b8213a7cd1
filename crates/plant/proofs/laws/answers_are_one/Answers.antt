use Rattle.std.proofs.Common.{◌<◌}
use Rattle.plant.specs.Readings.{IsBefore, IsEntry, HasPipe}
use Rattle.plant.proofs.Fronts.{one_answer}
use Rattle.plant.proofs.Orders.{entries, numbers}
use Rattle.plant.proofs.laws.answers_are_one.Goals as goal

pub returns-clause-rows : goal.returns-clause-rows
returns-clause-rows c = λ w switch. one_answer IsBefore entries (IsEntry w switch)

pub returns-clause-pipes : goal.returns-clause-pipes
returns-clause-pipes c = λ row. one_answer ◌<◌ numbers (HasPipe row)
