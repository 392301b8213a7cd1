use Rattle.std.proofs.Common.{List, ◌++◌, ◌||◌, ap, ◌∙◌}
use Rattle.script_text.specs.declared.reply.Reply.{Reply}
use Rattle.script_text.specs.declared.reply.Served.{Served}
use Rattle.script_text.proofs.ToldRuns.{served_more}
use Rattle.script_text.proofs.reply.Served.followed_by.Goals as goal

pub returns : goal.returns
returns c = λ (told : List Reply) is.
    served_more told c.args.reply.now _
    (c.in_ok-push_bytes.ensures.ok ∙ (λ i. (c.in_ok-lines.ensures ∙ ap (λ (s : Served). s.lines) is) i ++ (c.bytes.ensures ∙ c.in_ok-line.ensures) i))
    (c.either-closes.ensures ∙ (λ i. ap (λ (s : Served). s.closes) is i || c.closes.ensures i)) (c.either-blames.ensures ∙ (λ i. ap (λ (s : Served). s.blames) is i || c.blames_device.ensures i))
    (c.either-fails.ensures ∙ (λ i. ap (λ (s : Served). s.fails) is i || c.tells_failed.ensures i))
