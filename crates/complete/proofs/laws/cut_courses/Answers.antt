use Rattle.complete.proofs.GoingWell.{uncut, well_after}
use Rattle.complete.proofs.laws.cut_courses.Goals as goal

pub returns : goal.returns
returns c = λ plan trouble before course behind cut well. uncut plan trouble course behind cut (well_after before _ well)
