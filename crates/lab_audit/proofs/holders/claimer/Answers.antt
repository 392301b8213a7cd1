use Rattle.std.proofs.Common.{ap, sym, ◌∙◌}
use Rattle.std.specs.Prelude.{option_copied}
use Rattle.records_model.specs.Labs.{lab_in}
use Rattle.lab_audit.proofs.ByOwner.{by_none, by_owner}
use Rattle.lab_audit.proofs.holders.claimer.Goals as goal

pub returns-in_err-exp : goal.returns-in_err-exp
returns-in_err-exp c =
    let s = c.args.state.now.state in
    let sane = c.requires.sane in
    ap option_copied c.from_residual-in_err-exp.ensures
    ∙ sym (by_none (lab_in s.lab) s.experiments c.in_ok-claims.claims.now c.args.node.0 c.requires.node sane.is_lab sane.names sane.holding c.in_ok-claims.ensures.claims
    (sym c.owner_of.ensures ∙ c.in_err-exp.was))

pub returns : goal.returns
returns c =
    let s = c.args.state.now.state in
    let sane = c.requires.sane in
    let held = c.in_ok-claims.claims.now in
    let claims = c.in_ok-claims.ensures.claims in
    c.experiment.ensures
    ∙ sym (by_owner (lab_in s.lab) s.experiments held c.args.node.0 c.requires.node sane.is_lab sane.names sane.holding claims c.in_ok-exp.exp (sym c.owner_of.ensures ∙ c.in_ok-exp.was)
    (c.owners.ensures (lab_in s.lab) s.experiments held c.args.node.0 sane.holding sane.names claims))
