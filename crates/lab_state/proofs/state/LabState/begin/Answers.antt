use Rattle.std.proofs.Common.{ap, ◌∙◌}
use Rattle.lab_state.specs.Kept.{lab_of}
use Rattle.lab_state.proofs.EnterLaws.{begins_may, begins_few, begins_kept, noted_lab}
use Rattle.lab_state.proofs.state.LabState.begin.Goals as goal

pub note-requires-clause-may : goal.note-requires-clause-may
note-requires-clause-may c = begins_may c.self.inside.claimed_lab c.self.inside.experiments.list c.args.experiment c.args.claim c.self.invariant (rw (← c.self.view_is) at c.requires.begins)

pub note-requires-clause-few : goal.note-requires-clause-few
note-requires-clause-few c = begins_few c.self.inside.claimed_lab c.self.inside.experiments.list c.args.experiment c.args.claim c.self.invariant (rw (← c.self.view_is) at c.requires.begins)

pub invariant_of-self : goal.invariant_of-self
invariant_of-self c =
    let begins = rw (← c.self.view_is) at c.requires.begins in
    let sane = rw (← c.self.view_is) at c.requires.sane in
    rw (c.note.ensures, c.put.ensures) (begins_kept c.self.inside.claimed_lab c.self.inside.experiments.list c.args.experiment c.args.claim c.self.invariant begins sane)

pub returns : goal.returns
returns c =
    let claimed_lab = c.self.inside.claimed_lab in
    rw (← c.self.view_is) (λ i. record { lab = (ap lab_of c.note.ensures ∙ noted_lab claimed_lab c.args.experiment.name c.args.claim) i; experiments = c.put.ensures i })
