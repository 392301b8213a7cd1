use Rattle.std.proofs.Common.{◌<◌, All, List, length, ap, sym, subst, arith, ◌∙◌}
use Rattle.lab_base.specs.Lists.{AllDiffer}
use Rattle.lab_base.specs.declared.ids.NodeId.{NodeId}
use Rattle.lab_ahead.specs.declared.fitting.Need.{Need}
use Rattle.phys_lab.specs.Tables.{rows}
use Rattle.lab_ahead.specs.Moments.{needs_at}
use Rattle.lab_ahead.specs.SearchTrees.{IsTable}
use Rattle.lab_ahead.proofs.Shown.{is_table}
use Rattle.lab_ahead.proofs.WaitLaws.{few_needs, left_differ, left_within}
use Rattle.lab_ahead.proofs.waits.wait_at.Goals as goal

pub rows_at-requires-clause-nodes : goal.rows_at-requires-clause-nodes
rows_at-requires-clause-nodes c =
    let nodes = length c.args.served.now.lab.now.nodes in
    subst (λ (l : List NodeId). All (λ (node : NodeId). node.0 < nodes) l) (sym (c.as_slice.ensures ∙ c.in_ok-nodes.ensures)) (left_within nodes c.args.left.now c.args.at c.requires.of_lab)

pub fits_by-requires-clause-differ : goal.fits_by-requires-clause-differ
fits_by-requires-clause-differ c =
    subst (λ (l : List NodeId). AllDiffer l) (sym (c.as_slice-2.ensures ∙ c.in_ok-nodes.ensures)) (left_differ c.args.left.now c.args.at c.requires.differ)

pub fits_by-requires-clause-few : goal.fits_by-requires-clause-few
fits_by-requires-clause-few c =
    omega (arith, ap (λ (l : List Need). length l) (c.as_slice-3.ensures ∙ c.in_ok-needs.ensures), few_needs c.args.served.now.promises.now c.args.at, c.requires.few)

pub fits_by-requires-clause-table : goal.fits_by-requires-clause-table
fits_by-requires-clause-table c =
    let lab = c.args.served.now.lab.now in
    let needs = needs_at c.args.served.now.promises.now c.args.at in
    let table = rows c.in_ok-table.table.items in
    let is : IsTable (length needs) (length c.as_slice.result.now) table = is_table lab c.as_slice.result.now needs table c.in_ok-table.ensures in
    let nodes : IsTable (length needs) (length c.as_slice-2.result.now) table =
    subst (λ (l : List NodeId). IsTable (length needs) (length l) table) (c.as_slice.ensures ∙ sym c.as_slice-2.ensures) is in
    subst (λ (l : List Need). IsTable (length l) (length c.as_slice-2.result.now) table) (sym (c.as_slice-3.ensures ∙ c.in_ok-needs.ensures)) nodes

pub wait_for-wait-requires-clause-of_lab : goal.wait_for-wait-requires-clause-of_lab
wait_for-wait-requires-clause-of_lab c =
    let nodes = length c.args.served.now.lab.now.nodes in
    subst (λ (l : List NodeId). All (λ (node : NodeId). node.0 < nodes) l) (sym (c.as_slice-in-No.ensures ∙ c.in_ok-nodes.ensures)) (left_within nodes c.args.left.now c.args.at c.requires.of_lab)

pub wait_for-wait-requires-clause-few : goal.wait_for-wait-requires-clause-few
wait_for-wait-requires-clause-few c = omega (arith, ap (λ (l : List Need). length l) (c.as_slice-in-No-2.ensures ∙ c.in_ok-needs.ensures), few_needs c.args.served.now.promises.now c.args.at, c.requires.few)
