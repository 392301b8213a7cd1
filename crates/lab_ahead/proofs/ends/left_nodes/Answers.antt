use Rattle.lab_ahead.proofs.EndLaws.{left_from, left_to}
use Rattle.lab_ahead.proofs.ends.left_nodes.Goals as goal

pub returns : goal.returns
returns c = λ claimers ends places t node. (left_to ends places claimers t node, left_from ends places claimers t node)
