use Rattle.std.proofs.Common.{◌∙◌, ap}
use Rattle.std.specs.Str.{bytes_eq}
use Rattle.plant_mem.specs.Boots.{state_or_off, os_or_none}
use Rattle.plant_mem.proofs.NodeLaws.{state_if, os_if}
use Rattle.plant_mem.proofs.nodes.set.Goals as goal

pub returns-clause-states : goal.returns-clause-states
returns-clause-states c name = ap state_or_off (c.put.ensures.found name) ∙ state_if (bytes_eq c.args.node.now name) _ _

pub returns-clause-oses : goal.returns-clause-oses
returns-clause-oses c name = ap os_or_none (c.put.ensures.found name) ∙ os_if (bytes_eq c.args.node.now name) _ _
