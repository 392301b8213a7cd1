use Rattle.lab_base.proofs.Members.{Has-at}
use Rattle.net_plan.proofs.limits.count_segments.Goals as goal

pub segments-count-requires : goal.segments-count-requires
segments-count-requires c = c.requires.expandable c.link-item.result (Has-at c.args.links.now c.loop-link.link-index c.link-item.result c.loop-link-test.true c.link-item.is)
