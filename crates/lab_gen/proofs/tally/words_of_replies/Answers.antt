use Rattle.lab_gen.proofs.Words.{words}
use Rattle.lab_gen.proofs.tally.words_of_replies.Goals as goal

pub returns : goal.returns
returns c reply = words reply
