use Rattle.cost_rule.proofs.UseLaws.{parts_without_uses, costs_less}
use Rattle.cost_rule.proofs.parts.law_of_no_uses.Goals as goal

pub returns-clause-parts : goal.returns-clause-parts
returns-clause-parts c = λ p are. parts_without_uses p are

pub returns-clause-below : goal.returns-clause-below
returns-clause-below c = λ number p. costs_less number p
