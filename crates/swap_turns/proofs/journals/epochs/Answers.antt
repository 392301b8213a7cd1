use Rattle.swap_turns.proofs.Shifting.{did_epoch}
use Rattle.swap_turns.proofs.journals.epochs.Goals as goal

pub returns : goal.returns
returns c = λ trace j op applied answer h. did_epoch trace j op applied answer h
