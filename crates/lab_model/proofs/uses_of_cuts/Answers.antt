use Rattle.lab_model.proofs.CutLaws.{cut_is_use}
use Rattle.lab_model.proofs.uses_of_cuts.Goals as goal

pub returns : goal.returns
returns c = λ lab w m t in_lab. cut_is_use lab w m t in_lab
