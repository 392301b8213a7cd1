use Rattle.lab_ahead.proofs.WaitLaws.{above, never_at, one_moment}
use Rattle.lab_ahead.proofs.waits.waits_tell.Goals as goal

pub returns : goal.returns
returns c = record { one = one_moment; above = above; never = never_at }
