use Rattle.std.proofs.Common.{None}
use Rattle.script_text.specs.declared.command.Command.TheVariants.{Recover}
use Rattle.lab_core.proofs.Rested.{opened_rest, recovered_rest}
use Rattle.lab_core.proofs.StepLaws.{by_one, was}
use Rattle.lab_core.proofs.Beside.{beside_rests}
use Rattle.lab_core.proofs.laws.recoveries.Goals as goal

pub returns-clause-opened : goal.returns-clause-opened
returns-clause-opened c = λ s mid opening sane is none e there. opened_rest s mid opening sane is none e there

pub returns-clause-beside : goal.returns-clause-beside
returns-clause-beside c = λ s after swaps outcomes steps name settles ended. beside_rests swaps outcomes s after steps name settles ended

pub returns-clause-recovered : goal.returns-clause-recovered
returns-clause-recovered c = λ terms at set s session opening own after number sane step is e there moving.
    let one = by_one None terms set s session Recover opening own after step in
    recovered_rest own after number is one.0 terms set s session opening sane (was one.0 terms set s Recover opening own after None session one.1) e there moving
