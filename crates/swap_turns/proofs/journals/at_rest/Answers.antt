use Rattle.std.proofs.Common.{◌+◌, sym, ap, ◌∙◌}
use Rattle.journal_disk.specs.Standing.{side_of}
use Rattle.swap_turns.proofs.Images.{reads_possible, reads_on}
use Rattle.swap_turns.proofs.journals.at_rest.Goals as goal

pub returns-clause-possible : goal.returns-clause-possible
returns-clause-possible c = λ trace j rs at. reads_possible trace (side_of j) rs at.opened

pub returns-clause-records : goal.returns-clause-records
returns-clause-records c = λ trace j rs at. (reads_on trace (side_of j) rs at.opened).reads

pub returns-clause-live : goal.returns-clause-live
returns-clause-live c = λ trace j rs at. (reads_on trace (side_of j) rs at.opened).live_is

pub returns-clause-length : goal.returns-clause-length
returns-clause-length c = λ trace j rs at. (reads_on trace (side_of j) rs at.opened).size ∙ ap (λ n. n + 1) (sym at.gate)
