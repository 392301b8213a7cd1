use Rattle.std.proofs.Common.{sym, ◌∙◌}
use Rattle.plain_model.proofs.HoldsLaws.{holding_from, holding_test}
use Rattle.plain_model.proofs.holding.is_holding.Goals as goal

pub returns : goal.returns
returns c = (λ e. holding_from c.args.lab.now c.args.experiments.now (sym c.holds.ensures ∙ e), λ is. c.holds.ensures ∙ holding_test c.args.lab.now c.args.experiments.now is)
