use Rattle.claims.proofs.Replacing.{gone_claims}
use Rattle.claims.proofs.laws.gone.Goals as goal

pub returns : goal.returns
returns c = λ lab a b e held names of_es out. gone_claims lab a b e held names of_es out
