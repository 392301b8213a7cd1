use Rattle.std.proofs.Common.{arith}
use Rattle.ns_build.proofs.Changing.{node_changed, node_none}
use Rattle.ns_build.proofs.network.Network.change_node_at.Goals as goal

pub returns-then-index-len : goal.returns-then-index-len
returns-then-index-len c =
    node_changed _ _ c.args.change c.args.index c.from-index.result c.index_mut.result.now _ c.self.view_is c.from-index.ensures (omega (arith, c.len.ensures)) c.index_mut.ensures.value c.change_node.ensures

pub returns-else-index-len : goal.returns-else-index-len
returns-else-index-len c = node_none _ _ c.args.change c.args.index c.from-index.result c.self.view_is c.from-index.ensures (omega (arith, c.len.ensures))
