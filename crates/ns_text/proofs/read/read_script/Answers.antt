use Rattle.ns_text.proofs.Reading.{scripts, unread}
use Rattle.ns_text.proofs.read.read_script.Goals as goal

pub returns-in-Ok-clause-script : goal.returns-in-Ok-clause-script
returns-in-Ok-clause-script c = scripts c.args.text.now c.in-Ok.asked c.script_of.result c.in-Ok.ensures.meaning c.script_of.ensures.becomes

pub returns-in-Err-clause-script : goal.returns-in-Err-clause-script
returns-in-Err-clause-script c = unread c.args.text.now c.in-Err.refused c.in-Err.ensures.meaning
