use Rattle.net_plan.proofs.LeastLaws.{gives_least, lacks_one}
use Rattle.net_plan.proofs.laws.addresses_are_least.Goals as goal

pub returns-clause-given : goal.returns-clause-given
returns-clause-given c = gives_least

pub returns-clause-none : goal.returns-clause-none
returns-clause-none c = lacks_one
