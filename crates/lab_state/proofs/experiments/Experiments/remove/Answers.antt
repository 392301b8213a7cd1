use Rattle.std.proofs.Common.{sym, subst, ap, ◌∙◌}
use Rattle.lab_state.specs.Experiments.{experiments_of, AtNames}
use Rattle.lab_state.proofs.Named.{others_are, at_others}
use Rattle.lab_state.proofs.experiments.Experiments.remove.Goals as goal

pub invariant_of-self : goal.invariant_of-self
invariant_of-self c = subst AtNames (sym c.shift_remove.ensures.entries) (at_others c.args.exp c.self.inside.table.entries c.self.invariant)

pub returns : goal.returns
returns c = rw (← c.self.view_is) (ap experiments_of c.shift_remove.ensures.entries ∙ sym (others_are c.args.exp c.self.inside.table.entries c.self.invariant))
