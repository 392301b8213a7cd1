use Rattle.journal_model.proofs.Syncs.{lawful_readable, synced_fewer}
use Rattle.journal_model.proofs.synced_sides.Goals as goal

pub returns-clause-lawful : goal.returns-clause-lawful
returns-clause-lawful c = λ side trace lawful. lawful_readable side trace lawful

pub returns-clause-fewer : goal.returns-clause-fewer
returns-clause-fewer c = λ side trace a b readable possible. synced_fewer side trace a b readable possible
