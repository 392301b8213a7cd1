use Rattle.complete.proofs.BatchKeeps.{batch_keeps}
use Rattle.complete.proofs.laws.batches.Goals as goal

pub returns : goal.returns
returns c = λ terms choices old new status before after b t moment lines text served ran told sound asks replied open_to. batch_keeps c.promises.ensures.served terms choices old new status before after b t ran told sound moment lines text served asks replied open_to
