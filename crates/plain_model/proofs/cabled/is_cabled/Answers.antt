use Rattle.std.proofs.Common.{sym, ◌∙◌}
use Rattle.plain_model.proofs.CabledLaws.{cabled_from, cabled_test}
use Rattle.plain_model.proofs.cabled.is_cabled.Goals as goal

pub returns : goal.returns
returns c = (
  λ e. cabled_from c.args.commands.now c.args.lab.now c.args.experiments.now c.requires (sym c.holds.ensures ∙ e),
  λ is. c.holds.ensures ∙ cabled_test c.args.commands.now c.args.lab.now c.args.experiments.now c.requires is,
)
