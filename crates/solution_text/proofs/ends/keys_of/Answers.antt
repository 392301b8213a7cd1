use Rattle.std.proofs.Common.{◌≡◌, ◌≤◌, ◌∷◌, ◌++◌, [], length, take, get_or, sym, arith, ◌∙◌}
use Rattle.std.proofs.lemmas.List.{length-take-le}
use Rattle.top_text.proofs.PipeCount.{ends_of}
use Rattle.solution_text.proofs.EndKeys.{count_few, key_next, count_next}
use Rattle.solution_text.proofs.ends.keys_of.Goals as goal

pub overflow_add-earlier : goal.overflow_add-earlier
overflow_add-earlier c =
    let nodes = c.args.nodes.now in
    let i = c.loop-node.node-index in
    let node = get_or nodes i 0 in
    let is : c.counted-earlier.result ≡ ends_of node (take i nodes) = c.counted-earlier.ensures ∙ c.loop-node.invariant.counts node in
    let few : ends_of node (take i nodes) ≤ length (take i nodes) = count_few node (take i nodes) in
    let short : length (take i nodes) ≡ i = length-take-le i nodes (omega arith) in
    omega (arith, is, few, short)

pub loop-node-preserved : goal.loop-node-preserved
loop-node-preserved c =
    let nodes = c.args.nodes.now in
    let i = c.loop-node.node-index in
    let node = get_or nodes i 0 in
    let is : c.counted-earlier.result ≡ ends_of node (take i nodes) = c.counted-earlier.ensures ∙ c.loop-node.invariant.counts node in
    record {
      keys = c.in_ok-push.ensures.ok ∙ (λ j. c.loop-node.invariant.keys j ++ (node, is j) ∷ []) ∙ sym (key_next nodes i c.loop-node-test.true);
      counts = λ v. count_next nodes i v c.counted-earlier.result _ _ c.loop-node-test.true is (c.loop-node.invariant.counts v) (c.in_ok-insert.ensures.updates.0 v);
    }
