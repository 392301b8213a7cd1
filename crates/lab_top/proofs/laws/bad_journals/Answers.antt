use Rattle.lab_top.proofs.RunLaws.{ends_bad}
use Rattle.lab_top.proofs.laws.bad_journals.Goals as goal

pub returns : goal.returns
returns c = ends_bad
