use Rattle.std.proofs.Common.{◌∙◌, ℕ, List, ap, map}
use Rattle.node_maps.specs.Marked.{mark_of, marked_numbers}
use Rattle.node_maps.proofs.KindLaws.{read_more}
use Rattle.node_maps.proofs.marked.all_marked.Goals as goal

pub loop-numbers-preserved : goal.loop-numbers-preserved
loop-numbers-preserved c =
    let of : List ℕ → List ℕ = λ own. marked_numbers (map (mark_of c.args.marks.now) own) in
    read_more of c.args.lists.now c.loop-numbers.numbers-index c.numbers-item.result _ _ _ c.loop-numbers-test.true c.numbers-item.is c.loop-numbers.invariant
    (c.in_ok-own.ensures ∙ ap of c.as_slice.ensures) c.in_ok-push.ensures.items
