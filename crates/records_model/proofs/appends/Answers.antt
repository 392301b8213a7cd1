use Rattle.records_model.proofs.Work.{append_sound, append_works}
use Rattle.records_model.proofs.Starts.{missed_sound}
use Rattle.records_model.proofs.appends.Goals as goal

pub returns-clause-sound : goal.returns-clause-sound
returns-clause-sound c = λ t trace side rs s u r work may run. append_sound t trace side rs s r u work may run

pub returns-clause-works : goal.returns-clause-works
returns-clause-works c = λ t trace side rs s u r work may. append_works t trace side rs s r u work may

pub returns-clause-missed : goal.returns-clause-missed
returns-clause-missed c = λ t trace side sound. missed_sound t trace side sound
