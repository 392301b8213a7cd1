use Rattle.lab_look.proofs.Lost.{longer_is_lost, lost_is_told, begun_is_told}
use Rattle.lab_look.proofs.laws.lost_gates_are_told.Goals as goal

pub returns-clause-longer : goal.returns-clause-longer
returns-clause-longer c = longer_is_lost

pub returns-clause-lost : goal.returns-clause-lost
returns-clause-lost c = lost_is_told

pub returns-clause-begun : goal.returns-clause-begun
returns-clause-begun c = begun_is_told
