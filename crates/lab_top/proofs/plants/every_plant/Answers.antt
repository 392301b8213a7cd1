use Rattle.std.proofs.Common.{ap}
use Rattle.script_text.specs.Drills.{drill_of}
use Rattle.lab_top.proofs.EveryPlant.{few_ever, kept_ever, own_ever, solved_ever, undrilled_ever}
use Rattle.lab_top.proofs.plants.every_plant.Goals as goal

pub returns-clause-steps : goal.returns-clause-steps
returns-clause-steps c = λ terms choices old new status before after b r no_drill. own_ever terms choices old new status before after b r no_drill

pub returns-clause-solutions : goal.returns-clause-solutions
returns-clause-solutions c = λ terms choices old new status before after b only exp text lines reply r asks is.
    solved_ever terms choices old new status before after b r (ap drill_of asks) reply is only exp text lines asks

pub returns-clause-undrilled : goal.returns-clause-undrilled
returns-clause-undrilled c = λ terms choices old new status before after b reply r no_drill is. undrilled_ever terms choices old new status before after b r no_drill reply is

pub returns-clause-swaps : goal.returns-clause-swaps
returns-clause-swaps c = λ terms choices old new status before middle after name r open_now others. kept_ever terms choices old new status before middle after name r open_now others

pub returns-clause-few : goal.returns-clause-few
returns-clause-few c = λ terms choices old new status before after r. few_ever terms choices old new status before after r
