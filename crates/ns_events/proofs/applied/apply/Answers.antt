use Rattle.std.proofs.Common.{length, ap, ◌∙◌, arith}
use Rattle.ns_events.proofs.Applying.{applied, stays_sound}
use Rattle.ns_events.proofs.applied.apply.Goals as goal

pub returns-clause-applied : goal.returns-clause-applied
returns-clause-applied c =
    applied c.args.event.now c.args.text.now c.args.now.now c.in_ok-new.new c.deref.result.now c.in_ok-own.own.items c.in_ok-pipes.pipes (c.deref.ensures.value ∙ c.in_ok-old.ensures) c.in_ok-own.ensures
    (omega (arith, c.len.ensures, c.len-else-is_empty.ensures, ap length c.deref.ensures.value)) c.in_ok-new.ensures c.in_ok-pipes.ensures

pub returns-clause-sound : goal.returns-clause-sound
returns-clause-sound c = λ keeps.
    stays_sound c.args.event.now c.args.text.now c.args.now.now c.in_ok-new.new c.deref.result.now c.in_ok-pipes.pipes keeps c.requires.text c.requires.now (c.deref.ensures.value ∙ c.in_ok-old.ensures) c.in_ok-new.ensures c.in_ok-pipes.ensures
