use Rattle.std.proofs.Common.{◌≡◌, take}
use Rattle.std.specs.Prelude.{vec_len}
use Rattle.claims.specs.Marks.{marked, node_places}
use Rattle.claims.proofs.tables.own_nodes.Given as goal

abbrev pub invariant-loop-node : goal.invariant-loop-node
invariant-loop-node l = record {
  len : vec_len l.owners ≡ vec_len l.fn.owners;
  marked_so : l.owners.items ≡ marked l.owner l.fn.owners.items (node_places (take l.node-index l.nodes));
}
