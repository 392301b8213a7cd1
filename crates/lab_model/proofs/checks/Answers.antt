use Rattle.lab_model.proofs.FeasibleLaws.{kept_from, suits_from}
use Rattle.lab_model.proofs.FirstViolation.{breaks_first, found_first, none_found, same_violation}
use Rattle.lab_model.proofs.checks.Goals as goal

pub returns-clause-kept : goal.returns-clause-kept
returns-clause-kept c = λ lab w m f1 f6 f8 none. kept_from lab w m f1 f6 f8 none

pub returns-clause-none : goal.returns-clause-none
returns-clause-none c = λ lab w m f1 f6 f8 all. none_found lab w m f1 f6 f8 all

pub returns-clause-first : goal.returns-clause-first
returns-clause-first c = λ lab w m f1 f6 f8 rule subject e. breaks_first lab w m f1 f6 f8 (rule, subject) e

pub returns-clause-found : goal.returns-clause-found
returns-clause-found c = λ lab w m f1 f6 f8 rule subject b. found_first lab w m f1 f6 f8 rule subject b

pub returns-clause-suits : goal.returns-clause-suits
returns-clause-suits c = λ lab others own m none sound shaped tags. suits_from lab m _ _ _ none sound shaped tags

pub returns-clause-left : goal.returns-clause-left
returns-clause-left c = λ lab others own free w m left shaped. same_violation lab others own free w m left shaped
