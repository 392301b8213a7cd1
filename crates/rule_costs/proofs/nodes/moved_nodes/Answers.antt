use Rattle.std.proofs.Common.{◌≡◌, ◌∙◌, ℕ, arith}
use Rattle.rule_costs.specs.Nodes.{nodes_of, beyond}
use Rattle.rule_costs.proofs.NodeLaws.{nodes_differ}
use Rattle.rule_costs.proofs.nodes.moved_nodes.Goals as goal

pub returns-clause-difference : goal.returns-clause-difference
returns-clause-difference c =
    let from = nodes_of c.args.from.now.places in
    let to = nodes_of c.args.to.now.places in
    let old = c.as_slice-old.ensures in
    let new = c.as_slice-new.ensures in
    let before : ◌≡◌ {A = ℕ} c.nodes_beyond.result (beyond from to) = c.nodes_beyond.ensures.number ∙ (λ j. beyond (nodes_of (old j)) (nodes_of (new j))) in
    let after : ◌≡◌ {A = ℕ} c.nodes_beyond-2.result (beyond to from) = c.nodes_beyond-2.ensures.number ∙ (λ j. beyond (nodes_of (new j)) (nodes_of (old j))) in
    omega (arith, before, after, nodes_differ from to)
