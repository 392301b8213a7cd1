use Rattle.lab_core.proofs.Said.{as_said}
use Rattle.lab_core.proofs.laws.labs_are_kept.Goals as goal

pub returns : goal.returns
returns c = λ trace a b s sound possible stand. as_said trace a b s sound possible stand
