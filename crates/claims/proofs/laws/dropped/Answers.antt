use Rattle.claims.proofs.Replacing.{dropped_claims}
use Rattle.claims.proofs.laws.dropped.Goals as goal

pub returns : goal.returns
returns c = λ lab a b e f held names of_es name out. dropped_claims lab a b e held names of_es f name out
