use Rattle.complete.proofs.Quiet.{opening_rests, recover_rests, solution_goes_in, whole_one}
use Rattle.complete.proofs.laws.quiet_commands.Goals as goal

pub returns-clause-whole : goal.returns-clause-whole
returns-clause-whole c = λ terms choices old new status before after b t ran told sound un. whole_one terms choices old new status before after b t ran told sound un

pub returns-clause-opened : goal.returns-clause-opened
returns-clause-opened c = λ terms choices old new status before after b t ran told sound no_drill closed went_on well. opening_rests terms choices old new status before after b t ran told sound no_drill closed went_on well

pub returns-clause-recovered : goal.returns-clause-recovered
returns-clause-recovered c = λ terms choices old new status before after b t number stuck ran told sound asks replied well. recover_rests terms choices old new status before after b t ran told sound number stuck asks replied well

pub returns-clause-solutions : goal.returns-clause-solutions
returns-clause-solutions c = λ terms choices old new status before after b t only exp text lines reply ran told sound asks replied well. solution_goes_in terms choices old new status before after b t ran told sound only exp text lines reply asks replied well
