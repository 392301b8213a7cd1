use Rattle.swap_turns.proofs.Stood.{stood_once, stood_alike, stood_before, stood_settled}
use Rattle.swap_turns.proofs.journals.labs_of_sides.Goals as goal

pub returns-clause-once : goal.returns-clause-once
returns-clause-once c = λ t a b s u can p q. stood_once t a b s u can p q

pub returns-clause-alike : goal.returns-clause-alike
returns-clause-alike c = λ t a b x y s alike. stood_alike t a b x y s alike

pub returns-clause-before : goal.returns-clause-before
returns-clause-before c = λ t trace steps a b before possible sound. stood_before t trace steps a b before possible sound

pub returns-clause-settled : goal.returns-clause-settled
returns-clause-settled c = λ t trace steps a b s settled synced possible was. stood_settled t trace steps a b s settled synced possible was
