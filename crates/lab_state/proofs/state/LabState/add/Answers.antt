use Rattle.std.proofs.Common.{sym, subst}
use Rattle.lab_state.specs.Kept.{IsKept}
use Rattle.lab_state.proofs.EnterLaws.{add_kept}
use Rattle.lab_state.proofs.state.LabState.add.Goals as goal

pub invariant_of-self : goal.invariant_of-self
invariant_of-self c =
    let claimed_lab = c.self.inside.claimed_lab in
    let es = c.self.inside.experiments.list in
    let new = rw (← c.self.view_is) at c.requires.new in
    let sane = rw (← c.self.view_is) at c.requires.sane in
    subst (IsKept claimed_lab) (sym c.add.ensures) (add_kept claimed_lab es c.args.experiment c.self.invariant new c.requires.out c.requires.printable sane)
