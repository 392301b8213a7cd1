use Rattle.lab_top.proofs.Ended.{ended_inside}
use Rattle.lab_top.proofs.Moving.{moves_at}
use Rattle.lab_top.proofs.TurnLaws.{few_open, marked_at, moving_kept, sends_one, swaps_kept, turned_alone, world_kept}
use Rattle.lab_top.proofs.laws.turns.Goals as goal

pub returns-clause-swaps : goal.returns-clause-swaps
returns-clause-swaps c = λ terms choices old new status before middle after t name r told open_now others. swaps_kept terms choices old new status before middle after t r told name open_now others

pub returns-clause-kept : goal.returns-clause-kept
returns-clause-kept c = λ terms choices old new status before middle after t e swap r told sound there have open_now others. moving_kept terms choices old new status before middle after t r told e swap sound there have open_now others

pub returns-clause-moves : goal.returns-clause-moves
returns-clause-moves c = λ terms choices old new status before after t s swap r told at there. moves_at terms choices old new status before after t r told s at swap there

pub returns-clause-ended : goal.returns-clause-ended
returns-clause-ended c = λ terms choices old new status before middle after b c t exp text lines r told sound asks more on turns inside.
    ended_inside terms choices old new status before middle after b c t r told sound exp text lines asks more on turns inside

pub returns-clause-turned : goal.returns-clause-turned
returns-clause-turned c = λ terms choices old new status before after b t exp reply r told asks replied goes runs open_now.
    turned_alone terms choices old new status before after b t r told exp reply asks replied goes runs open_now

pub returns-clause-at_most_one : goal.returns-clause-at_most_one
returns-clause-at_most_one c = λ terms choices old new status before after b t exp reply r told asks replied. sends_one terms choices old new status before after b t r told exp reply asks replied

pub returns-clause-world : goal.returns-clause-world
returns-clause-world c = λ terms choices old new status before after b t s exp e reply r told turns replied open_now at listed other. world_kept terms choices old new status before after b t r told s exp e reply turns replied at listed other open_now

pub returns-clause-few : goal.returns-clause-few
returns-clause-few c = λ terms choices old new status before after t r told. few_open terms choices old new status before after r t told

pub returns-clause-marked : goal.returns-clause-marked
returns-clause-marked c = λ terms choices old new status before after swap r there. marked_at terms choices old new status before after r swap there
