use Rattle.std.proofs.Common.{arith}
use Rattle.lab_audit.proofs.Agreeing.{not_as_long}
use Rattle.lab_audit.proofs.nodes.agree.Goals as goal

pub returns-then-found-wanted : goal.returns-then-found-wanted
returns-then-found-wanted c = not_as_long 0 c.args.found.now c.args.wanted.now (λ same. absurd (omega (arith, same)))
