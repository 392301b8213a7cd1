use Rattle.std.proofs.Common.{◌≡◌, ◌<◌, All, List, length, map, sym, subst, arith}
use Rattle.lab_base.specs.Lists.{AllDiffer}
use Rattle.lab_ahead.specs.declared.times.Left.{Left}
use Rattle.lab_ahead.specs.Ends.{left_for}
use Rattle.lab_ahead.proofs.EndLaws.{nodes_differ, nodes_within, none_more}
use Rattle.lab_ahead.proofs.ends.left_for.Goals as goal

pub returns-clause-differ : goal.returns-clause-differ
returns-clause-differ c =
    let claimers = c.args.claimers.now in
    let ends = c.args.ends.now in
    let places = c.args.places.now in
    let is : c.loop-n.left ≡ left_for claimers ends places = none_more ends places c.loop-n.n claimers c.loop-n.left (left_for claimers ends places) (omega (arith, c.loop-n-test.false)) c.loop-n.invariant in
    subst (λ (l : List Left). AllDiffer (map (λ (entry : Left). entry.node) l)) (sym is) (nodes_differ ends places 0 claimers)

pub returns-clause-of_lab : goal.returns-clause-of_lab
returns-clause-of_lab c =
    let claimers = c.args.claimers.now in
    let ends = c.args.ends.now in
    let places = c.args.places.now in
    let is : c.loop-n.left ≡ left_for claimers ends places = none_more ends places c.loop-n.n claimers c.loop-n.left (left_for claimers ends places) (omega (arith, c.loop-n-test.false)) c.loop-n.invariant in
    subst (λ (l : List Left). All (λ (entry : Left). entry.node.0 < length claimers) l) (sym is) (nodes_within ends places claimers)
