use Rattle.lab_judge.proofs.JudgeTasks.{can_set}
use Rattle.lab_judge.proofs.command.judge_ptop.Goals as goal

pub returns-in_ok-ptop-in-Ok-clause-can : goal.returns-in_ok-ptop-in-Ok-clause-can
returns-in_ok-ptop-in-Ok-clause-can c =
    can_set c.args.state.now.state c.in-Ok.lab c.in_ok-ptop-in-Ok.ptop c.lab_record.result c.lab_reply-reply.result c.in_ok-need_none.ensures.none c.lab_reply-reply.ensures.kept c.in_ok-ptop-in-Ok.ensures.text c.lab_record.ensures.entry c.lab_record.ensures.is c.lab_reply-reply.ensures.reply
