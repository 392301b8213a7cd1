use Rattle.lab_state.proofs.PackSteps.{exit_short}
use Rattle.lab_state.proofs.packing.push_exit.Goals as goal

pub push-requires : goal.push-requires
push-requires c = exit_short c.args.exp c.bytes-named.ensures.named
