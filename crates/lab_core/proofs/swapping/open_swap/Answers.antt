use Rattle.lab_state.specs.Texts.{the_texts}
use Rattle.lab_core.proofs.swapping.open_swap.Goals as goal

pub returns-in-Err-clause-begun : goal.returns-in-Err-clause-begun
returns-in-Err-clause-begun g c = λ pairs swap entry move working holds planned. c.in-Err.ensures.begun the_texts _ _ pairs swap entry move working holds planned.body planned.may planned.begins planned.moves planned.plan
