use Rattle.lab_model.specs.Leavings.{did}
use Rattle.lab_model.proofs.Steps.{others_same, part_same}
use Rattle.lab_model.proofs.other_parts.Goals as goal

pub returns : goal.returns
returns c = λ lab es w e f op applied answer is_lab holding in_e in_f differ of_f part.
    part_same lab w (did w op applied answer) e (others_same lab es is_lab holding w e f op applied answer in_e in_f differ of_f) part
