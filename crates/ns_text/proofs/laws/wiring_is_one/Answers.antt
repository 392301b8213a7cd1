use Rattle.ns_text.proofs.Reading.{wiring_once}
use Rattle.ns_text.proofs.laws.wiring_is_one.Goals as goal

pub returns : goal.returns
returns c = wiring_once
