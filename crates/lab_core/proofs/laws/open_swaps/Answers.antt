use Rattle.std.proofs.Common.{Ok, ◌≤◌, ⊎_elim, ap, length, subst, sym}
use Rattle.lab_base.specs.Lists.{AllDiffer}
use Rattle.script_text.specs.Drills.{drill_of}
use Rattle.lab_tasks.specs.Tasks.{BeginOnly, Turn, Finish}
use Rattle.lab_core.specs.Sessions.{Open, names_of, open_at}
use Rattle.lab_core.proofs.OtherWorlds.{others_spared}
use Rattle.lab_core.proofs.ListSteps.{about_not, all_leave, all_move}
use Rattle.lab_core.proofs.OpenLaws.{names_differ, one_begun, others_as_they_were, they_are_few}
use Rattle.lab_core.proofs.StepLaws.{was}
use Rattle.lab_core.proofs.TurnLaws.{finish_tells, one_turn, turn_at_most_one, turn_tells}
use Rattle.lab_core.proofs.laws.open_swaps.Goals as goal

pub returns-clause-others : goal.returns-clause-others
returns-clause-others c = λ terms at set s opens to command opening own after name other step is.
    ⊎_elim (λ same. ap (open_at name) same) (λ one. others_as_they_were set (Open opens) command one.0 to name (about_not command name other) one.1) (all_leave terms at set s (Open opens) opening own after command to is step)

pub returns-clause-differ : goal.returns-clause-differ
returns-clause-differ c = λ terms at set s session to command opening own after differ step is.
    ⊎_elim (λ same. subst (λ l. AllDiffer (names_of l)) (sym same) differ) (λ one. names_differ set session command one.0 to differ one.1) (all_leave terms at set s session opening own after command to is step)

pub returns-clause-few : goal.returns-clause-few
returns-clause-few c = λ terms at set s session to command opening own after few step is.
    ⊎_elim (λ same. subst (λ l. length l ≤ 16) (sym same) few) (λ one. they_are_few set session command one.0 to few one.1) (all_leave terms at set s session opening own after command to is step)

pub returns-clause-moves : goal.returns-clause-moves
returns-clause-moves c = λ terms at set s session to command opening own after sane differ all step is. all_move terms at set s session opening own after command to is sane.none differ all step

pub returns-clause-begun : goal.returns-clause-begun
returns-clause-begun c = λ terms set s session command opening own after exp name way step is.
    one_begun own after exp name way is (drill_of command) terms set s session command opening (was (Ok (BeginOnly exp way)) terms set s command opening own after (drill_of command) session step)

pub returns-clause-turned : goal.returns-clause-turned
returns-clause-turned c = λ terms set s opens command opening own after exp reply no_drill step is open_still goes_on.
    one_turn own after reply is open_still goes_on (drill_of command) terms set s opens command opening exp no_drill (was (Ok (Turn exp)) terms set s command opening own after (drill_of command) (Open opens) step)

pub returns-clause-at_most_one : goal.returns-clause-at_most_one
returns-clause-at_most_one c = λ terms set s opens command opening own after exp step.
    turn_at_most_one (drill_of command) terms set s (Open opens) command opening own after exp (was (Ok (Turn exp)) terms set s command opening own after (drill_of command) (Open opens) step)

pub returns-clause-turn_tells : goal.returns-clause-turn_tells
returns-clause-turn_tells c = λ terms set s opens command opening own after exp reply step is.
    turn_tells own after reply is s exp (drill_of command) terms set opens command opening (was (Ok (Turn exp)) terms set s command opening own after (drill_of command) (Open opens) step)

pub returns-clause-finish_tells : goal.returns-clause-finish_tells
returns-clause-finish_tells c = λ terms set s opens command opening own after exp reply step is.
    finish_tells own after reply is s exp (drill_of command) terms set opens command opening (was (Ok (Finish exp)) terms set s command opening own after (drill_of command) (Open opens) step)

pub returns-clause-world : goal.returns-clause-world
returns-clause-world c = λ terms at set s opens command opening own after trace exp e sane turns listed other step. others_spared terms at set s opens command opening own after trace exp e sane turns listed other step
