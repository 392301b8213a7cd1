use Rattle.ns_build.proofs.OneMeaning.{meaning_once}
use Rattle.ns_build.proofs.laws.meaning_is_one.Goals as goal

pub returns : goal.returns
returns c = meaning_once
