use Rattle.std.proofs.Common.{Bool, sym, ◌∙◌, arith}
use Rattle.lab_base.proofs.Lists.{length_past}
use Rattle.virt_topo.specs.declared.experiment.Experiment.{Experiment}
use Rattle.lab_seen.specs.Claimed.{has_tag}
use Rattle.lab_look.proofs.Firsts.{first_here, first_later}
use Rattle.lab_look.proofs.seats.owner_of.Goals as goal

pub returns-then-has_tag : goal.returns-then-has_tag
returns-then-has_tag c =
    let p : Experiment → Bool = λ e. has_tag e c.args.id in
    sym (c.loop-number.invariant ∙ first_here p c.loop-number.number c.args.state.now.state.experiments c.in-Some.own.now (sym c.in-Some.ensures) (sym c.has_tag.ensures ∙ c.if-has_tag.true))

pub returns-in-None : goal.returns-in-None
returns-in-None c = absurd (omega (arith, length_past c.args.state.now.state.experiments c.loop-number.number (sym c.in-None.ensures), c.loop-number-test.true, c.len-number-end.ensures))

pub loop-number-preserved : goal.loop-number-preserved
loop-number-preserved c =
    let p : Experiment → Bool = λ e. has_tag e c.args.id in
    c.loop-number.invariant ∙ first_later p c.loop-number.number c.args.state.now.state.experiments c.in-Some.own.now (sym c.in-Some.ensures) (sym c.has_tag.ensures ∙ c.if-has_tag.false)
