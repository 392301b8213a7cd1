use Rattle.std.proofs.Common.{refl}
use Rattle.lab_core.proofs.swapping.prepare_swap.Goals as goal

pub returns-clause-forth : goal.returns-clause-forth
returns-clause-forth c = c.ready_swap.ensures.forth c.args.swap.exp c.args.swap.way refl
