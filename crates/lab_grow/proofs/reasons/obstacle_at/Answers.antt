use Rattle.lab_look.proofs.Ends.{has_front}
use Rattle.lab_grow.proofs.reasons.obstacle_at.Goals as goal

pub replay-requires : goal.replay-requires
replay-requires c = λ f h. c.requires.records f (has_front c.args.found.now c.args.index f h)
