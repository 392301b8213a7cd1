use Rattle.claims.proofs.Replacing.{few_claims}
use Rattle.claims.proofs.laws.few.Goals as goal

pub returns : goal.returns
returns c = λ lab a b e held names of_es. few_claims lab a b e held names of_es
