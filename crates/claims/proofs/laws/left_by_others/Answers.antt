use Rattle.claims.proofs.OthersLeave.{is_left}
use Rattle.claims.proofs.laws.left_by_others.Goals as goal

pub returns : goal.returns
returns c = record { left = λ lab a b own held free is_lab holding names of_es left. is_left lab a b own held of_es free is_lab holding names left }
