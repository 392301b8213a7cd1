use Rattle.claims.proofs.Replacing.{made_claims}
use Rattle.claims.proofs.laws.made.Goals as goal

pub returns : goal.returns
returns c = λ lab es e held of_es out new. made_claims lab es e held of_es out new
