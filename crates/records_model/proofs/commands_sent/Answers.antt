use Rattle.records_model.proofs.Work.{did_works}
use Rattle.records_model.proofs.commands_sent.Goals as goal

pub returns : goal.returns
returns c = λ t trace side rs s e op applied answer work h its stays. did_works t trace side rs s e op applied answer work h its stays
