use Rattle.std.proofs.Common.{◌≡◌, map, take}
use Rattle.lab_ahead.specs.Givings.{need_at}
use Rattle.lab_ahead.proofs.fitting.kinds_reached.Given as goal

abbrev pub invariant-loop-step : goal.invariant-loop-step
invariant-loop-step l = l.kinds.items ≡ map (λ step. (need_at l.needs step.need).kind) (take l.step-index l.steps)
