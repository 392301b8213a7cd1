use Rattle.std.proofs.Common.{Err, Ok, refl}
use Rattle.script_text.specs.Drills.{drill_of}
use Rattle.script_text.specs.declared.reply.Reply.TheVariants.{Unread}
use Rattle.lab_tasks.specs.Tasks.{Tell, Swap}
use Rattle.lab_judge.proofs.Judgements.{judged_once}
use Rattle.lab_core.proofs.BatchLines.{batch_tells}
use Rattle.lab_core.proofs.PlayTells.{play_tells}
use Rattle.lab_core.proofs.PlayWirings.{all_applied, play_wires}
use Rattle.lab_core.proofs.Refusals.{step_idle}
use Rattle.lab_core.proofs.StepLaws.{was, by_one, no_steps_refused, no_steps_told, step_once, swap_tells}
use Rattle.lab_core.proofs.ListSteps.{all_drills, all_stay, all_stop, plain_step}
use Rattle.lab_core.proofs.OuterSteps.{tells_alone, tells_stop, tells_unread}
use Rattle.lab_core.proofs.laws.lab_steps.Goals as goal

pub returns-clause-judged_once : goal.returns-clause-judged_once
returns-clause-judged_once c = λ rule s busy count command a b alone is also. judged_once rule s busy count command a b alone is also

pub returns-clause-by_one : goal.returns-clause-by_one
returns-clause-by_one c = λ terms at set s session command opening own after no' step. by_one (drill_of command) terms set s session command opening own after (plain_step terms at set s session command opening own after no' step)

pub returns-clause-refused : goal.returns-clause-refused
returns-clause-refused c = λ terms set s session command opening own after reply step.
    no_steps_refused (drill_of command) reply terms set s session command opening own after (was (Err reply) terms set s command opening own after (drill_of command) session step)

pub returns-clause-told : goal.returns-clause-told
returns-clause-told c = λ terms set s session command opening own after reply step.
    no_steps_told (drill_of command) reply terms set s session command opening own after (was (Ok (Tell reply)) terms set s command opening own after (drill_of command) session step)

pub returns-clause-once : goal.returns-clause-once
returns-clause-once c = λ terms set s opens command judgement own after later reply other no_swap no_restart no_miss is also one two.
    step_once s opens own reply other after later is also (drill_of command) terms set command judgement no_swap (no_restart, no_miss) one two

pub returns-clause-swapped : goal.returns-clause-swapped
returns-clause-swapped c = λ terms set s session command opening own after exp way reply no_drill is step.
    swap_tells exp way own after reply is (drill_of command) terms set s session command opening no_drill (was (Ok (Swap exp way)) terms set s command opening own after (drill_of command) session step)

pub returns-clause-others : goal.returns-clause-others
returns-clause-others c = λ terms at set s session command opening own after name there other rests step. (all_stay terms at set s session opening own after command name there other rests step).same

pub returns-clause-drills : goal.returns-clause-drills
returns-clause-drills c = λ terms at set s session command opening own after is step. all_drills terms at set s session opening own after command is step

pub returns-clause-stops : goal.returns-clause-stops
returns-clause-stops c = λ terms at set s session command opening own after reply step is. tells_stop command opening own reply (all_stop terms at set s session opening own after command reply is step)

pub returns-clause-served : goal.returns-clause-served
returns-clause-served c = λ terms at set s session moment lines text opening own after served step is. batch_tells terms at set s session moment lines text opening own after served is step

pub returns-clause-played : goal.returns-clause-played
returns-clause-played c = λ terms at set s session exp name from until lines count text last closing blaming opening own after step is.
    play_tells terms at set s session exp name from until lines count text last closing blaming opening own after is step

pub returns-clause-wired : goal.returns-clause-wired
returns-clause-wired c = λ terms at set s session exp name from until lines count text last closing blaming opening own after step is mild.
    play_wires terms at set s session exp name from until lines count text last closing blaming opening own after is mild step

pub returns-clause-applied : goal.returns-clause-applied
returns-clause-applied c = λ text before after events sound keeps has are. all_applied text events before after sound keeps has are

pub returns-clause-unread : goal.returns-clause-unread
returns-clause-unread c = λ terms at set s session command opening own after reply name step is. tells_unread command opening own reply name (all_stop terms at set s session opening own after command reply is step)

pub returns-clause-alone : goal.returns-clause-alone
returns-clause-alone c = λ terms at set s session command opening own after name step is. tells_alone command opening own (Unread name) name (all_stop terms at set s session opening own after command (Unread name) is step) refl

pub returns-clause-idle : goal.returns-clause-idle
returns-clause-idle c = λ terms at set s session command opening own after reply step is no_steps. step_idle terms at set s opening own after reply is no_steps command session step
