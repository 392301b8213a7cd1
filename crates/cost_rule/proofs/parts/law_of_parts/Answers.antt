use Rattle.cost_rule.proofs.PartLaws.{cost_is}
use Rattle.cost_rule.proofs.parts.law_of_parts.Goals as goal

pub returns : goal.returns
returns c = λ number lab w m. cost_is number lab w m
