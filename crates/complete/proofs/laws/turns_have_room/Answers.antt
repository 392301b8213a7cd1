use Rattle.complete.proofs.Room.{step_not}
use Rattle.complete.proofs.laws.turns_have_room.Goals as goal

pub returns : goal.returns
returns c = step_not
