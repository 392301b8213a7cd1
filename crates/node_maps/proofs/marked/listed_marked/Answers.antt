use Rattle.std.proofs.Common.{◌∙◌, ℕ, Bool, List, map, ap}
use Rattle.node_maps.specs.Marked.{mark_of, marked_numbers}
use Rattle.node_maps.proofs.MarkLaws.{marked_of_lists}
use Rattle.node_maps.proofs.marked.listed_marked.Goals as goal

pub returns : goal.returns
returns c =
    let lists = c.args.lists.now in
    c.in_ok-all.ensures
    ∙ ap (λ (marks : List Bool). map (λ (own : List ℕ). marked_numbers (map (mark_of marks) own)) lists) (c.as_slice.ensures ∙ c.in_ok-marks.ensures)
    ∙ marked_of_lists c.args.nodes.now c.args.places.now lists c.requires
