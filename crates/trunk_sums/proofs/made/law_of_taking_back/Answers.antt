use Rattle.trunk_sums.proofs.RemadeLaws.{taken_back}
use Rattle.trunk_sums.proofs.made.law_of_taking_back.Goals as goal

pub returns : goal.returns
returns c = λ plugs changes. taken_back plugs changes
