use Rattle.ns_build.proofs.ObjectWords.{words_stand}
use Rattle.ns_build.proofs.laws.words_stand_for_objects.Goals as goal

pub returns : goal.returns
returns c = words_stand
