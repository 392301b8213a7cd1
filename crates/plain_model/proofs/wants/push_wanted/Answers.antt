use Rattle.std.proofs.Common.{◌∙◌}
use Rattle.plain_model.proofs.HoldsLaws.{moving_fits}
use Rattle.plain_model.proofs.WantLaws.{on_ok, in_pushed, moving_pushed}
use Rattle.plain_model.proofs.wants.push_wanted.Goals as goal

pub push_mapped-requires-in-Moving : goal.push_mapped-requires-in-Moving
push_mapped-requires-in-Moving c = (moving_fits c.args.lab.now c.args.experiment.now c.in-Moving.old c.in-Moving.new c.in-Moving.is c.requires).1

pub returns-in_ok-rows-in-In : goal.returns-in_ok-rows-in-In
returns-in_ok-rows-in-In c = on_ok c.push_owned.result c.push_owned.ensures (λ e. in_pushed c.args.lab.now c.args.experiment.now c.in-In.mapping c.in-In.tags c.as_slice.result.now c.deref.result.now c.args.listed.now.items c.push_owned.new.listed.items c.in-In.is c.as_slice.ensures (c.deref.ensures.value ∙ c.in_ok-rows-in-In.ensures) e)

pub returns-in_ok-push_mapped-in-Moving : goal.returns-in_ok-push_mapped-in-Moving
returns-in_ok-push_mapped-in-Moving c = on_ok c.push_mapped-in-Moving.result c.push_mapped-in-Moving.ensures
    (λ e. moving_pushed c.args.lab.now c.args.experiment.now c.in-Moving.old c.in-Moving.new c.args.listed.now.items c.push_mapped.new.listed.items c.push_mapped-in-Moving.new.listed.items c.in-Moving.is c.in_ok-push_mapped-in-Moving.ensures e)
