use Rattle.std.proofs.Common.{◌++◌, ap}
use Rattle.swap_turns.specs.Pieces.{has_miss}
use Rattle.swap_turns.proofs.Alike.{opened_alike}
use Rattle.swap_turns.proofs.Quiet.{opening_quiet, opening_missed}
use Rattle.swap_turns.proofs.Sounds.{steps_sound, opened_works, works_as}
use Rattle.swap_turns.proofs.journals.openings.Goals as goal

pub returns-clause-quiet : goal.returns-clause-quiet
returns-clause-quiet c = λ trace steps result is. opening_quiet trace steps result is.opens

pub returns-clause-opened : goal.returns-clause-opened
returns-clause-opened c = λ trace steps opened is. opening_missed trace steps _ is.opens _ (ap has_miss is.opens.ends.1)

pub returns-clause-failed : goal.returns-clause-failed
returns-clause-failed c = λ trace steps is. opening_missed trace steps _ is.opens _ (ap has_miss is.opens.ends.1)

pub returns-clause-sound : goal.returns-clause-sound
returns-clause-sound c = λ t trace steps result is sound. steps_sound t trace steps (opening_quiet trace steps result is.opens).0 is.before sound

pub returns-clause-works : goal.returns-clause-works
returns-clause-works c = λ t trace steps result j rs is at sound. opened_works t (trace ++ steps) j rs at (steps_sound t trace steps (opening_quiet trace steps result is.opens).0 is.before sound)

pub returns-clause-lab : goal.returns-clause-lab
returns-clause-lab c = λ t trace steps result j rs s is at sound can lab. works_as t (trace ++ steps) j rs s at (steps_sound t trace steps (opening_quiet trace steps result is.opens).0 is.before sound) can lab

pub returns-clause-alike : goal.returns-clause-alike
returns-clause-alike c = λ trace steps result is possible. opened_alike trace steps result is possible
