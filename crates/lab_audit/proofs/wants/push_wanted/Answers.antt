use Rattle.lab_audit.proofs.AllWanted.{suits_new, suits_old, suits_standing}
use Rattle.lab_audit.proofs.wants.push_wanted.Goals as goal

pub push_standing-requires : goal.push_standing-requires
push_standing-requires c = suits_standing c.args.lab.now c.args.experiment.now c.requires c.in-In.mapping c.in-In.tags c.in-In.is

pub push_if-requires : goal.push_if-requires
push_if-requires c = suits_old c.args.lab.now c.args.experiment.now c.requires c.in-Moving.old c.in-Moving.new c.in-Moving.is

pub push_if-requires-in-Moving : goal.push_if-requires-in-Moving
push_if-requires-in-Moving c = suits_new c.args.lab.now c.args.experiment.now c.requires c.in-Moving.old c.in-Moving.new c.in-Moving.is
