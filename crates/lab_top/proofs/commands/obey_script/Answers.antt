use Rattle.std.proofs.Common.{[], Some}
use Rattle.lab_words.specs.Words.{Usual}
use Rattle.lab_top.proofs.Wording.{unbegun}
use Rattle.lab_top.proofs.commands.obey_script.Goals as goal

pub returns-in_default-clause-ran : goal.returns-in_default-clause-ran
returns-in_default-clause-ran g c = ([], unbegun _ (Some Usual) _, λ is. absurd (cc is))
