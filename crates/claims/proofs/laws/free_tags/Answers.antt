use Rattle.claims.proofs.FreeIds.{free_tags}
use Rattle.claims.proofs.laws.free_tags.Goals as goal

pub returns : goal.returns
returns c = λ lab es held w tags names of_es. free_tags lab es held w tags names of_es
