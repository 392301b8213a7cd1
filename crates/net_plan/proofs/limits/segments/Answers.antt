use Rattle.std.proofs.Common.{sym, arith}
use Rattle.net_plan.proofs.Counts.{lan_count}
use Rattle.net_plan.proofs.limits.segments.Goals as goal

pub returns-then-link-clause-count : goal.returns-then-link-clause-count
returns-then-link-clause-count c =
    let count = lan_count c.args.link.now (sym c.if-not-is_shaped.ensures) c.if-link.true in
    omega (arith, count, c.len.ensures)
