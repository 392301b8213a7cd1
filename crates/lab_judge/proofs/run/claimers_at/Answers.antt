use Rattle.std.proofs.Common.{◌≡◌, ℕ, List, Option, IfOk, subst}
use Rattle.lab_base.specs.Lists.{listed}
use Rattle.lab_judge.proofs.run.claimers_at.Goals as goal

pub returns : goal.returns
returns c = subst (λ (o : Option (List ℕ)). IfOk c.at_most_one.result (λ names. names ≡ listed o)) c.owner_of.ensures c.at_most_one.ensures
