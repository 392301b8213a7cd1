use Rattle.journal_model.proofs.Totals.{records_total}
use Rattle.journal_model.proofs.Readings.{records_once, records_or_bad, bad_once}
use Rattle.journal_model.proofs.one_reading.Goals as goal

pub returns-clause-records : goal.returns-clause-records
returns-clause-records c = λ a b rs ss p q. records_once a b rs ss p q

pub returns-clause-not_both : goal.returns-clause-not_both
returns-clause-not_both c = λ a b rs side at p q. records_or_bad a b rs side at p q

pub returns-clause-bad : goal.returns-clause-bad
returns-clause-bad c = λ a b side tide at au p q. bad_once a b side tide at au p q

pub returns-clause-one_of_both : goal.returns-clause-one_of_both
returns-clause-one_of_both c = λ a b all_a all_b. records_total a b all_a all_b
