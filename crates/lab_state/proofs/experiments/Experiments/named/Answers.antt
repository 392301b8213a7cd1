use Rattle.std.proofs.Common.{sym, ◌∙◌}
use Rattle.lab_state.proofs.Named.{find_is}
use Rattle.lab_state.proofs.experiments.Experiments.named.Goals as goal

pub returns : goal.returns
returns c = rw (← c.self.view_is) (c.get.ensures.value ∙ sym (find_is c.args.exp c.self.inside.table.entries c.self.invariant))
