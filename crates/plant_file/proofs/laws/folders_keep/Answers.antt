use Rattle.plant_file.proofs.Losing.{blank_keeps, losses}
use Rattle.plant_file.proofs.laws.folders_keep.Goals as goal

pub returns-clause-blank : goal.returns-clause-blank
returns-clause-blank c = blank_keeps

pub returns-clause-lost : goal.returns-clause-lost
returns-clause-lost c = losses
