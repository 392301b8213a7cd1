use Rattle.std.proofs.Common.{subst}
use Rattle.plant.specs.Events.{Event}
use Rattle.records_model.specs.Works.{IsSound}
use Rattle.lab_state.specs.Texts.{the_texts}
use Rattle.lab_folder.proofs.Stops.{left_by}
use Rattle.lab_folder.proofs.laws.folders.Goals as goal

pub returns-clause-blank : goal.returns-clause-blank
returns-clause-blank c = record { keeps = c.folders_keep.ensures.blank; sound = c.runs.ensures.blank }

pub returns-clause-lost : goal.returns-clause-lost
returns-clause-lost c = λ h now old a b left lost. left_by c.folders_keep.ensures.lost h now old a b left lost
