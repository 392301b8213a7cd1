use Rattle.tcl_words.proofs.Rising.{rising}
use Rattle.tcl_words.proofs.OneSplitting.{commands_once}
use Rattle.tcl_words.proofs.laws.splittings.Goals as goal

pub returns-clause-one : goal.returns-clause-one
returns-clause-one c = λ text a b one other. commands_once text 0 a b one other

pub returns-clause-rising : goal.returns-clause-rising
returns-clause-rising c = λ text commands is. rising text commands is
