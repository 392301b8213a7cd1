use Rattle.top_text.proofs.TopWhole.{top_again}
use Rattle.top_text.proofs.laws.texts_are_read_back.Goals as goal

pub returns : goal.returns
returns c = top_again
