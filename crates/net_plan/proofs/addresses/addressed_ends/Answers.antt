use Rattle.std.proofs.Common.{None, get_or}
use Rattle.virt_topo.specs.declared.wiring.VirtEnd.{VirtEnd}
use Rattle.net_plan.specs.Addresses.{uses}
use Rattle.net_plan.proofs.AddressLaws.{given_more}
use Rattle.net_plan.proofs.ListLaws.{own_item}
use Rattle.net_plan.proofs.addresses.addressed_ends.Goals as goal

pub loop-end-preserved : goal.loop-end-preserved
loop-end-preserved c =
    let ends = c.args.ends.now in
    let i = c.loop-end.end-index in
    let none : VirtEnd = record { node = 0; address = None } in
    let are = given_more (uses c.args.used.now) (uses c.loop-end.used) (uses c.insert.new.self) c.args.subnet ends i (get_or ends i none) c.in-Some.address c.loop-end.given c.push.new.self
    c.loop-end-test.true (own_item ends i none c.loop-end-test.true) c.in-Some.ensures c.in_ok-insert.ensures.used c.in_ok-push.ensures.ok c.loop-end.invariant.used c.loop-end.invariant.ends in
    record { used = are.0; ends = are.1 }
