use Rattle.std.proofs.Common.{length, ap, ◌∙◌}
use Rattle.lab_grow.proofs.Suiting.{standing_suits}
use Rattle.lab_grow.proofs.standing.rows_in.Goals as goal

pub rows_of-requires-clause-shaped : goal.rows_of-requires-clause-shaped
rows_of-requires-clause-shaped c = (standing_suits c.args.lab.now c.args.own.now c.requires c.in-In.mapping c.in-In.tags c.in-In.is).shaped

pub rows_of-requires-clause-tagged : goal.rows_of-requires-clause-tagged
rows_of-requires-clause-tagged c = ap length c.as_slice.ensures ∙ (standing_suits c.args.lab.now c.args.own.now c.requires c.in-In.mapping c.in-In.tags c.in-In.is).tags
