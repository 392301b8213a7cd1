use Rattle.std.proofs.Common.{[], ◌∷◌, ◌++◌, sym, ap, subst}
use Rattle.journal_model.specs.Appends.{added}
use Rattle.records_model.specs.Works.{AtWork}
use Rattle.journal_disk.specs.Standing.{side_of, gate_of}
use Rattle.swap_turns.specs.Pieces.{has_miss}
use Rattle.swap_turns.proofs.Endings.{append_done, append_left, append_quiet, ended_quiet, ended_missed}
use Rattle.swap_turns.proofs.Lengths.{appended_whole}
use Rattle.swap_turns.proofs.journals.appends.Goals as goal

pub returns-clause-done : goal.returns-clause-done
returns-clause-done c = λ t trace more j rs s u r run done works may ends. append_done t trace more j rs s u r run works may ends.0 ends.1

pub returns-clause-broken : goal.returns-clause-broken
returns-clause-broken c = λ t trace more j rs s u r run result works may ends. append_left t trace (side_of j) rs s u r works.work may (gate_of j) result run more works.gate ends

pub returns-clause-quiet : goal.returns-clause-quiet
returns-clause-quiet c = λ j r run. append_quiet (side_of j) (gate_of j) r run

pub returns-clause-stands : goal.returns-clause-stands
returns-clause-stands c = λ t trace more j k rs s u r run done works may ends same at.
    let now = trace ++ (added (side_of j) (gate_of j) r run ++ more) in
    record { work = subst (λ side. AtWork t now side (rs ++ r ∷ []) u) (sym same) (append_done t trace more j rs s u r run works may ends.0 ends.1); gate = at.gate }

pub returns-clause-ended : goal.returns-clause-ended
returns-clause-ended c = λ j r run more result ends. ended_quiet (side_of j) (gate_of j) r run more result ends

pub returns-clause-appended : goal.returns-clause-appended
returns-clause-appended c = λ j r run more done ends. ended_missed (side_of j) (gate_of j) r run more _ (ap has_miss ends.1)

pub returns-clause-failed : goal.returns-clause-failed
returns-clause-failed c = λ j r run more ends. ended_missed (side_of j) (gate_of j) r run more _ (ap has_miss ends)

pub returns-clause-size : goal.returns-clause-size
returns-clause-size c = λ j r. appended_whole (side_of j) (gate_of j) r
