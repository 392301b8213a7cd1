use Rattle.std.proofs.Common.{◌≢◌, sym, ap, ◌∙◌, true, false, Option, Some, None}
use Rattle.virt_topo.specs.declared.experiment.Phase.TheVariants.{Out, Moving}
use Rattle.virt_topo.specs.declared.mapping.Mapped.{Mapped}
use Rattle.lab_model.specs.Claims.{Old, New, claimed_in}
use Rattle.claims.specs.declared.claim.Claim.{Claim}
use Rattle.claims.specs.Holds.{hold_in}
use Rattle.claims.proofs.Replacing.{narrowed_claims}
use Rattle.claims.proofs.laws.narrowed.Goals as goal

moves : (old new : Option Mapped) → Moving old new ≢ Out
moves old new same = cc same

pub returns-clause-new : goal.returns-clause-new
returns-clause-new c = λ lab a b e f old m held names of_es moving name wiring phase.
    narrowed_claims lab a b e held names of_es f m true (λ out. moves old (Some m) (sym moving ∙ out))
    (ap (λ p. let claim : Claim = record { old = None; new = hold_in lab (claimed_in e.wiring p New) } in claim) moving) name wiring phase

pub returns-clause-old : goal.returns-clause-old
returns-clause-old c = λ lab a b e f m new held names of_es moving name wiring phase.
    narrowed_claims lab a b e held names of_es f m false (λ out. moves (Some m) new (sym moving ∙ out))
    (ap (λ p. let claim : Claim = record { old = None; new = hold_in lab (claimed_in e.wiring p Old) } in claim) moving) name wiring phase
