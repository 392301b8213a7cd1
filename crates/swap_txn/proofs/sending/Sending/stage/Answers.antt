use Rattle.std.proofs.Common.{◌≡◌, sym, subst}
use Rattle.swap_txn.specs.States.{Progress, stage_of}
use Rattle.swap_txn.proofs.Positions.{stage_is}
use Rattle.swap_txn.proofs.sending.Sending.stage.Goals as goal

pub returns : goal.returns
returns c =
    let i = c.self.inside in
    subst (λ (p : Progress). i.stage ≡ stage_of p.plan p.left) c.self.view_is (sym (stage_is i.commands i.stage i.at i.watched c.self.invariant))
