use Rattle.swap_turns.proofs.Elsewhere.{turn_elsewhere, finish_elsewhere}
use Rattle.swap_turns.proofs.worlds_of_others.Goals as goal

pub returns-clause-turn : goal.returns-clause-turn
returns-clause-turn c = λ s o w e steps outcome after sane moves listed other turn. turn_elsewhere s o w e sane moves listed other steps outcome after turn

pub returns-clause-finish : goal.returns-clause-finish
returns-clause-finish c = λ s o w e steps outcome after sane moves listed other f. finish_elsewhere s o w e sane moves listed other steps outcome after f
