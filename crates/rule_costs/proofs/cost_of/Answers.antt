use Rattle.std.proofs.Common.{◌∙◌, sym, ap}
use Rattle.cost_rule.specs.Parts.{cost_of_parts}
use Rattle.cost_rule.proofs.PartLaws.{cost_is}
use Rattle.rule_costs.proofs.cost_of.Goals as goal

pub returns : goal.returns
returns c =
    c.parts_cost.ensures
    ∙ ap (cost_of_parts c.args.number) c.parts_of.ensures
    ∙ sym (cost_is c.args.number c.args.lab.now c.args.wiring.now c.args.mapping.now)
