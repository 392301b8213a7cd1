use Rattle.records_model.proofs.Starts.{restarted}
use Rattle.swap_turns.proofs.Blank.{nothing_sound, restarted_alone, restarted_reads, restarted_possible, restarted_stand}
use Rattle.swap_turns.proofs.journals.starts.Goals as goal

pub returns-clause-nothing : goal.returns-clause-nothing
returns-clause-nothing c = λ t. nothing_sound t

pub returns-clause-sound : goal.returns-clause-sound
returns-clause-sound c = λ t trace a b possible sound. (restarted t trace a b possible sound).0

pub returns-clause-alone : goal.returns-clause-alone
returns-clause-alone c = λ trace a b x y possible. restarted_alone trace a b x y possible

pub returns-clause-reads : goal.returns-clause-reads
returns-clause-reads c = λ trace a b. restarted_reads trace a b

pub returns-clause-possible : goal.returns-clause-possible
returns-clause-possible c = λ trace a b. restarted_possible trace a b

pub returns-clause-stand : goal.returns-clause-stand
returns-clause-stand c = λ t trace a b s was x y possible. restarted_stand t trace a b s was x y possible
