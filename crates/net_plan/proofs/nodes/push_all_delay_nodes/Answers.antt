use Rattle.lab_base.proofs.Members.{Has-at}
use Rattle.net_plan.proofs.nodes.push_all_delay_nodes.Goals as goal

pub push_delay_nodes-requires : goal.push_delay_nodes-requires
push_delay_nodes-requires c = c.requires c.link-item.result (Has-at c.args.links.now c.loop-link.link-index c.link-item.result c.loop-link-test.true c.link-item.is)
