use Rattle.std.proofs.Common.{ap}
use Rattle.swap_turns.specs.Pieces.{has_miss}
use Rattle.swap_turns.proofs.Shifting.{shift_quiet, shift_missed, all_stand, shifts_sound, room_kept}
use Rattle.swap_turns.proofs.Sounds.{works_as}
use Rattle.swap_turns.proofs.journals.compactions.Goals as goal

pub returns-clause-sound : goal.returns-clause-sound
returns-clause-sound c = λ t trace steps j rs ps s packed result works lab room compacts shifts.
    shifts_sound t trace j rs ps s works lab room steps result shifts (shift_quiet trace steps j packed result compacts).0

pub returns-clause-stand : goal.returns-clause-stand
returns-clause-stand c = λ t trace steps j rs ps s result works lab shifts. all_stand t trace j rs ps s works lab steps result shifts

pub returns-clause-works : goal.returns-clause-works
returns-clause-works c = λ t trace steps j k rs ps s packed result works lab room compacts shifts can at.
    works_as t _ k ps s at (shifts_sound t trace j rs ps s works lab room steps result shifts (shift_quiet trace steps j packed result compacts).0) can lab

pub returns-clause-quiet : goal.returns-clause-quiet
returns-clause-quiet c = λ trace steps j packed result compacts. shift_quiet trace steps j packed result compacts

pub returns-clause-done : goal.returns-clause-done
returns-clause-done c = λ trace steps j packed done compacts. shift_missed trace steps j packed _ compacts _ (ap has_miss compacts.ends.1)

pub returns-clause-failed : goal.returns-clause-failed
returns-clause-failed c = λ trace steps j packed compacts. shift_missed trace steps j packed _ compacts _ (ap has_miss compacts.ends)

pub returns-clause-room : goal.returns-clause-room
returns-clause-room c = λ t trace j rs ps s packed works are fits. room_kept t trace j rs ps s packed works are fits
