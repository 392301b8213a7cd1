use Rattle.records_model.specs.Labs.{at_first}
use Rattle.records_model.proofs.Starts.{syncs_sound, opening, restarted, makes}
use Rattle.records_model.proofs.openings.Goals as goal

pub returns-clause-synced : goal.returns-clause-synced
returns-clause-synced c = λ t trace a b sound. syncs_sound t trace a b sound

pub returns-clause-found : goal.returns-clause-found
returns-clause-found c = λ t trace a b sound. opening t trace a b sound

pub returns-clause-restarted : goal.returns-clause-restarted
returns-clause-restarted c = λ t trace a b was sound. restarted t trace a b was sound

pub returns-clause-made : goal.returns-clause-made
returns-clause-made c = λ t trace b sound shut. (at_first, makes t trace b sound shut)
