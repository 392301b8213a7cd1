use Rattle.lab_audit.proofs.Nothing as nothings
use Rattle.lab_audit.proofs.laws.cabled_labs_differ_in_nothing.Goals as goal

pub returns-clause-nothing : goal.returns-clause-nothing
returns-clause-nothing c = λ lab es w report cabled. nothings.nothing lab es w cabled report

pub returns-clause-known : goal.returns-clause-known
returns-clause-known c = λ lab es w cabled. nothings.known lab es w cabled
