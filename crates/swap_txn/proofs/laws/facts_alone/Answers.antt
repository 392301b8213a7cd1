use Rattle.swap_txn.proofs.Knowing.{starts}
use Rattle.swap_txn.proofs.Others.{other_command, other_turn, other_begins}
use Rattle.swap_txn.proofs.laws.facts_alone.Goals as goal

pub returns-clause-starts : goal.returns-clause-starts
returns-clause-starts c = λ lab e plan trace. starts lab e plan trace

pub returns-clause-commands : goal.returns-clause-commands
returns-clause-commands c = λ lab es is_lab holding e f in_e in_f differ start live trace op applied answer of_f h. other_command lab es is_lab holding e f in_e in_f differ start live trace op applied answer of_f h

pub returns-clause-turns : goal.returns-clause-turns
returns-clause-turns c = λ lab es is_lab holding e f in_e in_f differ start begin live other was now j k turned h own facts. other_turn lab es is_lab holding e f in_e in_f differ start begin live was now other j k turned h own facts

pub returns-clause-begins : goal.returns-clause-begins
returns-clause-begins c = λ lab e start live p r was now j k turned h facts. other_begins lab e start live p r was now j k turned h facts
