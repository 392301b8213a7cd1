use Rattle.std.proofs.Common.{◌≡◌, ◌<◌, ◌∙◌, ◌++◌, ◌+◌, List, length, ap, sym, subst, map, drop, get_or, append_assoc, arith}
use Rattle.std.proofs.lemmas.List.{length-append}
use Rattle.phys_lab.specs.declared.parts.Node.{Node}
use Rattle.node_maps.specs.NodeMaps.{places_from}
use Rattle.node_maps.proofs.Places.{places_step, few_places}
use Rattle.node_maps.proofs.suited.places_of.Goals as goal

pub loop-node-preserved : goal.loop-node-preserved
loop-node-preserved c =
    let nodes = c.args.lab.now.nodes in
    let i = c.loop-node.node in
    let x = c.index-nodes-node.result in
    let before = c.loop-node.listed.items in
    let rest = places_from (i + 1) (drop (i + 1) nodes) in
    let Below : List Node → Type 0 = λ xs. i < length xs in
    let At : List Node → Type 0 = λ xs. x ≡ get_or xs i x in
    let list = c.nodes-nodes.ensures in
    ap (λ xs. xs ++ rest) c.in_ok-push_places.ensures
    ∙ append_assoc before (map (λ t. (record { 0 = i }, t.0)) x.types) rest
    ∙ ap (λ xs. before ++ xs) (sym (places_step nodes i x (subst Below list c.loop-node-test.true) (subst At list c.index-nodes-node.is)))
    ∙ c.loop-node.invariant

pub returns-clause-few : goal.returns-clause-few
returns-clause-few c =
    let lab = c.args.lab.now in
    let listed = c.loop-node.listed.items in
    let rest = places_from c.loop-node.node (drop c.loop-node.node lab.nodes) in
    omega (arith, few_places lab c.range-kept.ensures.lab, ap length c.loop-node.invariant, length-append listed rest)
