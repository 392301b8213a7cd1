use Rattle.lab_model.proofs.BesideLaws.{from_beside, to_beside}
use Rattle.lab_model.proofs.isolation_beside.Goals as goal

pub returns-clause-from : goal.returns-clause-from
returns-clause-from c = λ lab es w is. from_beside lab es w is

pub returns-clause-to : goal.returns-clause-to
returns-clause-to c = λ lab es w is. to_beside lab es w is
