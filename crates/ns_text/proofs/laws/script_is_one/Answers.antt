use Rattle.ns_text.proofs.Reading.{script_once, wiring_of_script}
use Rattle.ns_text.proofs.laws.script_is_one.Goals as goal

pub returns-clause-one : goal.returns-clause-one
returns-clause-one c = script_once

pub returns-clause-wiring : goal.returns-clause-wiring
returns-clause-wiring c = wiring_of_script
