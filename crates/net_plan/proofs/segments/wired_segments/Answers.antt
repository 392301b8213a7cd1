use Rattle.lab_base.proofs.Members.{Has-at}
use Rattle.net_plan.proofs.segments.wired_segments.Goals as goal

pub push_segments-requires-clause-link : goal.push_segments-requires-clause-link
push_segments-requires-clause-link c = c.requires.links c.link-item.result (Has-at c.args.links.now c.loop-link.link-index c.link-item.result c.loop-link-test.true c.link-item.is)
