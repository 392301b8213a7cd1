use Rattle.lab_top.proofs.RunLaws.{opened_rests, recovered_beside, recovered_rests}
use Rattle.lab_top.proofs.Answers.{opening_rests, opening_rests_one}
use Rattle.lab_top.proofs.laws.recoveries.Goals as goal

pub returns-clause-opened : goal.returns-clause-opened
returns-clause-opened c = λ terms choices old new status before after b t r told sound opens. opened_rests terms choices old new status before after b t r told sound opens

pub returns-clause-each : goal.returns-clause-each
returns-clause-each c = λ trace piece s mid at to none. opening_rests trace piece s mid at to none

pub returns-clause-beside : goal.returns-clause-beside
returns-clause-beside c = λ trace piece s mid name to ended. opening_rests_one trace piece s mid name to ended

pub returns-clause-recovered : goal.returns-clause-recovered
returns-clause-recovered c = λ terms choices old new status before after b t done r told sound asks replied. recovered_rests terms choices old new status before after b t r told sound done asks replied

pub returns-clause-recovered_beside : goal.returns-clause-recovered_beside
returns-clause-recovered_beside c = λ terms choices old new status before after b t done stuck r told sound asks replied. recovered_beside terms choices old new status before after b t r told sound done stuck asks replied
