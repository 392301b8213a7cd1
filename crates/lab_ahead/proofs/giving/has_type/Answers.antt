use Rattle.std.proofs.Common.{ℕ, List, [], get_or, sym, ap, ◌∙◌}
use Rattle.std.specs.List.{list_any}
use Rattle.std.proofs.lemmas.List.{get_or-map}
use Rattle.lab_base.specs.Names.{same_name}
use Rattle.phys_lab.specs.declared.parts.Node.{Node}
use Rattle.lab_ahead.proofs.giving.has_type.Goals as goal

pub returns : goal.returns
returns c =
    let node = c.index-nodes-node.result in
    let types = ap (λ (l : List Node). (get_or l c.args.node.0 node).types) c.nodes.ensures ∙ sym (get_or-map (λ (n : Node). n.types) c.args.lab.now.nodes c.args.node.0 node [] c.requires) in
    c.is_among.ensures ∙ ap (λ (l : List (List ℕ × ℕ)). list_any (λ t. same_name c.args.kind.now t.0) l) (c.as_slice.ensures ∙ types)
