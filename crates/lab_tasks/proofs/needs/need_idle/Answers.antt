use Rattle.std.proofs.Common.{refl, sym, ◌∙◌}
use Rattle.lab_tasks.proofs.Busy.{not_busy, open_busy}
use Rattle.lab_tasks.proofs.needs.need_idle.Goals as goal

pub returns-then-is_open-clause-refuses : goal.returns-then-is_open-clause-refuses
returns-then-is_open-clause-refuses c = (rw (open_busy c.args.swaps.now c.args.exp (c.is_open.ensures.0 c.if-is_open.true)) refl, (refl, refl, refl))

pub returns-clause-idle : goal.returns-clause-idle
returns-clause-idle c = not_busy c.args.swaps.now c.args.exp (λ o. absurd (cc (sym c.if-is_open.false ∙ c.is_open.ensures.1 o)))
