use Rattle.lab_state.proofs.PackSteps.{commit_short}
use Rattle.lab_state.proofs.packing.push_commit.Goals as goal

pub push-requires : goal.push-requires
push-requires c = commit_short c.args.exp c.bytes-named.ensures.named
