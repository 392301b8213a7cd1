use Rattle.std.proofs.Common.{◌≡◌, sym, ap, ◌∙◌}
use Rattle.lab_model.specs.Wants.{node_name}
use Rattle.plain_model.specs.Cabling.{is_right, is_right_in}
use Rattle.plain_model.proofs.HoldsLaws.{in_suits, moving_fits}
use Rattle.plain_model.proofs.cabled.is_right_at.Goals as goal

pub node_row_of-requires-clause-sound : goal.node_row_of-requires-clause-sound
node_row_of-requires-clause-sound c = (in_suits c.args.lab.now c.args.experiment.now c.in-In.mapping c.in-In.tags c.in-In.is c.requires.fits).sound

pub node_row_of-requires-clause-shaped : goal.node_row_of-requires-clause-shaped
node_row_of-requires-clause-shaped c = (in_suits c.args.lab.now c.args.experiment.now c.in-In.mapping c.in-In.tags c.in-In.is c.requires.fits).shaped

pub wants_of-requires-in-Moving-clause-fits : goal.wants_of-requires-in-Moving-clause-fits
wants_of-requires-in-Moving-clause-fits c = (moving_fits c.args.lab.now c.args.experiment.now c.in-Moving.old c.in-Moving.new c.in-Moving.is c.requires.fits).1

pub returns-in_ok-wants-in-In : goal.returns-in_ok-wants-in-In
returns-in_ok-wants-in-In c =
    let lab = c.args.lab.now in
    let commands = c.args.commands.now in
    let name = node_name lab c.args.node in
    let bytes : c.bytes.result.now ≡ name = c.bytes.ensures.bytes ∙ c.name_at-name.ensures in
    c.is_right.ensures ∙ (λ i. is_right commands (bytes i) (c.in_ok-wants-in-In.ensures.os i) (c.in_ok-wants-in-In.ensures.pipes i))
    ∙ ap (λ phase. is_right_in commands lab c.args.experiment.now.wiring phase name) (sym c.in-In.is)
