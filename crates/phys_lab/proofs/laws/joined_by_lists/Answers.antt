use Rattle.std.proofs.Common.{refl}
use Rattle.phys_lab.specs.Sides.{joined}
use Rattle.phys_lab.proofs.TableLaws.{joined_iff}
use Rattle.phys_lab.proofs.laws.joined_by_lists.Goals as goal

pub returns : goal.returns
returns c = λ trunks a b. joined_iff trunks a b (joined trunks a b) refl
