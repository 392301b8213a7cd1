use Rattle.plain_model.proofs.IsolationLaws.{isolated_from, isolated_test}
use Rattle.plain_model.proofs.isolation_tested.Goals as goal

pub returns-clause-sound : goal.returns-clause-sound
returns-clause-sound c = λ lab es w rows pipes seen is. isolated_from lab es w rows pipes seen is

pub returns-clause-complete : goal.returns-clause-complete
returns-clause-complete c = λ lab es w rows pipes seen is. isolated_test lab es w rows pipes seen is
