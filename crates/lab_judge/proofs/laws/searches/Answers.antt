use Rattle.lab_judge.proofs.SearchLaws.{found_once}
use Rattle.lab_judge.proofs.laws.searches.Goals as goal

pub returns : goal.returns
returns c = found_once
