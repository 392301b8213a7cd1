use Rattle.claims.proofs.Taking.{may_take, may_leave}
use Rattle.claims.proofs.laws.may_add.Goals as goal

pub returns-clause-taken : goal.returns-clause-taken
returns-clause-taken c = λ lab a b e f m held holding names of_es phase none sound shaped free. may_take lab a b e f held holding names of_es m phase none sound shaped free

pub returns-clause-left : goal.returns-clause-left
returns-clause-left c = λ lab a b e f held holding names of_es phase. may_leave lab a b e f held holding names of_es phase
