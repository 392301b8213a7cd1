use Rattle.complete.proofs.WholeRuns.{course_of}
use Rattle.complete.proofs.laws.courses.Goals as goal

pub returns : goal.returns
returns c = course_of
