use Rattle.ns_text.proofs.Reading.{reads, fails}
use Rattle.ns_text.proofs.read.read_network.Goals as goal

pub returns-in-Ok-clause-wiring : goal.returns-in-Ok-clause-wiring
returns-in-Ok-clause-wiring c = reads c.args.text.now c.in-Ok.asked c.wiring_of.result c.in-Ok.ensures.meaning c.wiring_of.ensures.becomes

pub returns-in-Err-clause-wiring : goal.returns-in-Err-clause-wiring
returns-in-Err-clause-wiring c = fails c.args.text.now c.in-Err.refused c.in-Err.ensures.meaning
