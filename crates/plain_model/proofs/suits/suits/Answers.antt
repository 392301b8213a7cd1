use Rattle.std.proofs.Common.{sym, ◌∙◌}
use Rattle.plain_model.proofs.HoldsLaws.{shaped_from}
use Rattle.plain_model.proofs.suits.suits.Goals as goal

pub keeps_rules-requires-clause-shaped : goal.keeps_rules-requires-clause-shaped
keeps_rules-requires-clause-shaped c = shaped_from c.args.lab.now c.args.wiring.now c.args.mapping.now (sym c.is_shaped.ensures ∙ c.if-not-is_shaped.false)
