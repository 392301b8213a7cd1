use Rattle.std.proofs.Common.{◌≡◌, ◌≤◌, ◌*◌, take}
use Rattle.lab_ahead.specs.Givings.{need_of}
use Rattle.lab_ahead.proofs.waits.need_of.Given as goal

abbrev pub invariant-loop-need : goal.invariant-loop-need
invariant-loop-need l = record { is : l.sum ≡ need_of (take l.need-index l.needs) l.kinds; small : l.sum ≤ 65535 * l.need-index }
