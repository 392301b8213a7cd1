use Rattle.std.proofs.Common.{sym, ap, ◌∙◌}
use Rattle.std.specs.Prelude.{option_copied}
use Rattle.lab_state.proofs.PackSteps.{there_is}
use Rattle.lab_core.proofs.Opened.{one_more}
use Rattle.lab_core.proofs.controller.moves.Goals as goal

pub returns-in-Some : goal.returns-in-Some
returns-in-Some c =
    one_more c.args.lab.now.state.experiments c.args.number c.in-Some.experiment.now c.is_moving.result (sym c.nth.ensures ∙ ap option_copied c.in-Some.is) c.is_moving.ensures

pub returns-in-None : goal.returns-in-None
returns-in-None c = absurd (there_is c.args.lab.now.state.experiments c.args.number c.requires (sym c.nth.ensures ∙ ap option_copied c.in-None.is))
