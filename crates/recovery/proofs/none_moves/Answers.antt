use Rattle.recovery.proofs.Resting.{none_moves}
use Rattle.recovery.proofs.none_moves.Goals as goal

pub returns : goal.returns
returns c = none_moves
