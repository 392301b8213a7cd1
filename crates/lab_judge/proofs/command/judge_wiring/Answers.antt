use Rattle.std.proofs.Common.{Bool, ap, ◌∙◌}
use Rattle.records_model.specs.Labs.{create_in}
use Rattle.lab_judge.proofs.JudgeTasks.{can_create}
use Rattle.lab_judge.proofs.command.judge_wiring.Goals as goal

pub returns-clause-can : goal.returns-clause-can
returns-clause-can c =
    let entry = c.create_record.ensures.entry ∙ ap (λ (b : Bool). create_in b c.args.exp c.args.top) c.has_multiplexed.ensures in
    can_create c.args.state.now.state c.args.exp c.args.wiring.now c.args.top c.create_record.result c.created_reply-reply.result c.requires.occupied c.in_ok-need_room.ensures.room c.requires.sound c.requires.printable c.requires.text entry c.create_record.ensures.is c.created_reply-reply.ensures
