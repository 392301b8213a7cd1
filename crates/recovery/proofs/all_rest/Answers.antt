use Rattle.recovery.proofs.Resting.{all_rest}
use Rattle.recovery.proofs.all_rest.Goals as goal

pub returns : goal.returns
returns c = all_rest
