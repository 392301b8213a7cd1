use Rattle.std.proofs.Common.{sym, subst}
use Rattle.lab_state.specs.Kept.{IsKept}
use Rattle.lab_state.proofs.EnterLaws.{remove_kept}
use Rattle.lab_state.proofs.state.LabState.remove.Goals as goal

pub invariant_of-self : goal.invariant_of-self
invariant_of-self c =
    let claimed_lab = c.self.inside.claimed_lab in
    let es = c.self.inside.experiments.list in
    let found = rw (← c.self.view_is) at c.requires.out.1 in
    let sane = rw (← c.self.view_is) at c.requires.sane in
    subst (IsKept claimed_lab) (sym c.remove.ensures) (remove_kept claimed_lab es c.args.exp c.requires.out.0 c.self.invariant found c.requires.out.2 sane)
