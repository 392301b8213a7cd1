use Rattle.lab_grow.proofs.Staying.{world_stays}
use Rattle.lab_grow.proofs.Parting.{parts_stay}
use Rattle.lab_grow.proofs.laws.devices_stay.Goals as goal

pub returns-clause-cabled : goal.returns-clause-cabled
returns-clause-cabled c = world_stays

pub returns-clause-parts : goal.returns-clause-parts
returns-clause-parts c = parts_stay
