use Rattle.lab_top.proofs.Answering.{answered_not, answered_sent, marked_so, not_written}
use Rattle.lab_top.proofs.Drilling.{goes_on_marked}
use Rattle.lab_top.proofs.command.answer_command.Goals as goal

pub reply_to-requires-clause-goes_on : goal.reply_to-requires-clause-goes_on
reply_to-requires-clause-goes_on g c = let was = c.requires.goes_on in (was.0, goes_on_marked (g.P.Plant.seen c.args.plant.now) _ c.args.controller.now was.0 c.in-Ok.ensures.ok was.1)

pub returns-clause-answered : goal.returns-clause-answered
returns-clause-answered g c = λ from goes.
    answered_not _ c.args.command _ _ _ from _ (λ reply. g.T.ReplyTaker.takes c.args.taker.now reply c.args.taker.now) c.in-Err.fault (marked_so (g.P.Plant.seen c.args.plant.now) _ c.args.controller.now c.in-Ok.ensures.ok)
    (c.in-Err.ensures from (goes_on_marked (g.P.Plant.seen c.args.plant.now) _ c.args.controller.now from c.in-Ok.ensures.ok goes))

pub returns-in-Ok-reply_to-clause-answered : goal.returns-in-Ok-reply_to-clause-answered
returns-in-Ok-reply_to-clause-answered g c = λ from goes.
    answered_sent _ c.args.command _ _ _ from _ _ _ _ _ (marked_so (g.P.Plant.seen c.args.plant.now) _ c.args.controller.now c.in-Ok.ensures.ok)
    (c.in-Ok-reply_to.ensures from (goes_on_marked (g.P.Plant.seen c.args.plant.now) _ c.args.controller.now from c.in-Ok.ensures.ok goes)) c.take_reply.ensures.sent c.take_reply.ensures.takes

pub returns-clause-write : goal.returns-clause-write
returns-clause-write g c = λ is.
    let was = c.requires.goes_on in
    absurd (not_written _ c.args.command _ _ was.0 c.in-Err.fault (c.in-Err.ensures was.0 (goes_on_marked (g.P.Plant.seen c.args.plant.now) _ c.args.controller.now was.0 c.in-Ok.ensures.ok was.1)) is)
