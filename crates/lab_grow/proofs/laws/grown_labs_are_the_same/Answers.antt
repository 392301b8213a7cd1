use Rattle.lab_state.specs.Texts.{the_texts}
use Rattle.lab_state.proofs.Canonical.{texts_once}
use Rattle.lab_grow.proofs.Carrying.{grown_law}
use Rattle.lab_grow.proofs.laws.grown_labs_are_the_same.Goals as goal

pub returns : goal.returns
returns c = grown_law the_texts texts_once
