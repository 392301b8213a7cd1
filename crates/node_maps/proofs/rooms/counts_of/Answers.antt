use Rattle.std.proofs.Common.{◌∙◌, length}
use Rattle.node_maps.proofs.KindLaws.{read_more}
use Rattle.node_maps.proofs.rooms.counts_of.Goals as goal

pub loop-list-preserved : goal.loop-list-preserved
loop-list-preserved c =
    read_more length c.args.lists.now c.loop-list.list-index c.list-item.result _ _ _ c.loop-list-test.true c.list-item.is c.loop-list.invariant (c.of.ensures ∙ c.len.ensures) c.in_ok-push.ensures.items
