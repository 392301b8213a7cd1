use Rattle.std.proofs.Common.{refl, sym, ◌∙◌}
use Rattle.lab_tasks.proofs.Busy.{not_busy, open_busy}
use Rattle.lab_tasks.proofs.needs.need_open.Goals as goal

pub returns-then-is_open-clause-open : goal.returns-then-is_open-clause-open
returns-then-is_open-clause-open c = open_busy c.args.swaps.now c.args.exp (c.is_open.ensures.0 c.if-is_open.true)

pub returns-clause-refuses : goal.returns-clause-refuses
returns-clause-refuses c = (rw (not_busy c.args.swaps.now c.args.exp (λ o. absurd (cc (sym c.if-is_open.false ∙ c.is_open.ensures.1 o)))) refl, (refl, refl, refl))
