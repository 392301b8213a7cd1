use Rattle.std.proofs.Common.{List, ℕ, ◌++◌, ap}
use Rattle.journal_model.specs.Journals.{magic}
use Rattle.journal_disk.proofs.Bytes.{le_bytes}
use Rattle.journal_disk.proofs.writing.header_of.Goals as goal

pub returns : goal.returns
returns c = rw c.to_le_bytes.ensures (ap (λ (l : List ℕ). magic ++ l) (le_bytes 7 c.args.epoch))
