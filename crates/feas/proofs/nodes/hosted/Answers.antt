use Rattle.std.proofs.Common.{◌+◌, ◌++◌, List, drop, arith, append_assoc, ap, sym, ◌∙◌}
use Rattle.lab_model.specs.Rules.{HostedNode, hosted}
use Rattle.std.proofs.lemmas.List.{drop_all, append-nil}
use Rattle.lab_model.specs.Shapes.{Place}
use Rattle.feas.proofs.HostedNodeLaws.{guest_step, no_hosted}
use Rattle.feas.proofs.nodes.hosted.Goals as goal

pub loop-virt-preserved : goal.loop-virt-preserved
loop-virt-preserved c =
    let rest = hosted (drop (c.loop-virt.virt + 1) c.args.nodes.now) (drop (c.loop-virt.virt + 1) c.args.places.now) c.args.node in
    let step = guest_step c.args.nodes.now c.args.places.now c.loop-virt.virt c.args.node _ _ (omega arith) (omega arith) c.index-nodes-virt.is c.index-places-virt.is in
    ap (λ (l : List HostedNode). l ++ rest) c.in_ok-push_hosted_node.ensures ∙ append_assoc c.loop-virt.listed.items _ rest ∙ ap (λ (l : List HostedNode). c.loop-virt.listed.items ++ l) step ∙ c.loop-virt.invariant

pub returns : goal.returns
returns c =
    let rest = drop c.loop-virt.virt c.args.nodes.now in
    let none = ap (λ (l : List Place). hosted rest l c.args.node) (drop_all c.loop-virt.virt c.args.places.now (omega arith)) ∙ no_hosted rest c.args.node in
    sym (append-nil c.loop-virt.listed.items) ∙ ap (λ (l : List HostedNode). c.loop-virt.listed.items ++ l) (sym none) ∙ c.loop-virt.invariant
