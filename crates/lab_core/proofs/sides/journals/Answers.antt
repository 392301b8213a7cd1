use Rattle.lab_core.proofs.OneJournal.{first_journal, not_both, one_place}
use Rattle.lab_core.proofs.sides.journals.Goals as goal

pub returns-clause-not_both : goal.returns-clause-not_both
returns-clause-not_both c = not_both

pub returns-clause-one_place : goal.returns-clause-one_place
returns-clause-one_place c = one_place

pub returns-clause-first : goal.returns-clause-first
returns-clause-first c = first_journal
