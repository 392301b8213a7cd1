use Rattle.std.proofs.Common.{sym, subst, ap, ◌∙◌}
use Rattle.records_model.specs.Labs.{Follows}
use Rattle.lab_state.specs.Texts.{the_texts}
use Rattle.lab_state.specs.Changes.{after}
use Rattle.lab_state.proofs.state.LabState.follow.Goals as goal

pub returns-in-Ok : goal.returns-in-Ok
returns-in-Ok c =
    let same = c.enter.ensures ∙ ap (λ s. after s c.in-Ok.prepared) c.prepare.ensures.unchanged in
    subst (λ u. Follows the_texts c.args.self.now.state c.args.entry.now u) (sym same) c.in-Ok.ensures.ok
