use Rattle.lab_state.proofs.Canonical.{texts_once}
use Rattle.lab_state.proofs.laws.texts_are_canonical.Goals as goal

pub returns : goal.returns
returns c = texts_once
