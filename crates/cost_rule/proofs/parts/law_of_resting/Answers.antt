use Rattle.cost_rule.proofs.UseLaws.{hangs_on_none}
use Rattle.cost_rule.proofs.parts.law_of_resting.Goals as goal

pub returns : goal.returns
returns c = λ number p some same. hangs_on_none number p some same
