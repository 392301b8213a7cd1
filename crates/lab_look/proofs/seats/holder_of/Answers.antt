use Rattle.std.proofs.Common.{Bool, sym, ◌∙◌, arith}
use Rattle.lab_base.proofs.Lists.{length_past}
use Rattle.virt_topo.specs.declared.experiment.Experiment.{Experiment}
use Rattle.lab_model.specs.Claims.{claims_it}
use Rattle.lab_look.proofs.Firsts.{first_here, first_later}
use Rattle.lab_look.proofs.seats.holder_of.Goals as goal

pub returns-then-claims : goal.returns-then-claims
returns-then-claims c =
    let p : Experiment → Bool = λ e. claims_it c.args.lab.now e c.args.name.now in
    sym (c.loop-number.invariant ∙ first_here p c.loop-number.number c.args.state.now.state.experiments c.in-Some.own.now (sym c.in-Some.ensures) (sym c.claims.ensures ∙ c.if-claims.true))

pub returns-in-None : goal.returns-in-None
returns-in-None c = absurd (omega (arith, length_past c.args.state.now.state.experiments c.loop-number.number (sym c.in-None.ensures), c.loop-number-test.true, c.len-number-end.ensures))

pub loop-number-preserved : goal.loop-number-preserved
loop-number-preserved c =
    let p : Experiment → Bool = λ e. claims_it c.args.lab.now e c.args.name.now in
    c.loop-number.invariant ∙ first_later p c.loop-number.number c.args.state.now.state.experiments c.in-Some.own.now (sym c.in-Some.ensures) (sym c.claims.ensures ∙ c.if-claims.false)
