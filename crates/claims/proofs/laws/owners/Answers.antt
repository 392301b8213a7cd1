use Rattle.claims.proofs.ByNode.{owners}
use Rattle.claims.proofs.laws.owners.Goals as goal

pub returns : goal.returns
returns c = λ lab es held n holding names of_es. owners lab es held n holding names of_es
