use Rattle.std.proofs.Common.{sym, ◌∙◌}
use Rattle.lab_core.proofs.InTurn.{shut_told}
use Rattle.lab_core.proofs.play.whole_reply.Goals as goal

pub returns-then-closes : goal.returns-then-closes
returns-then-closes c = shut_told c.args.exp c.args.played c.args.reply.now c.args.stuck c.requires.part (sym c.closes.ensures ∙ c.if-closes.true) c.requires.stuck
