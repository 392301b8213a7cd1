use Rattle.journal_model.proofs.Runs.{run_images}
use Rattle.journal_model.proofs.append_images.Goals as goal

pub returns : goal.returns
returns c = λ trace side epoch rs r run known rests is_r a b possible. run_images trace side epoch rs r run known rests is_r a b possible
