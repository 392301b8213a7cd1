use Rattle.std.proofs.Common.{sym, arith}
use Rattle.net_plan.proofs.Counts.{lan_count_ends}
use Rattle.net_plan.proofs.limits.ends.Goals as goal

pub returns-then-link-clause-count : goal.returns-then-link-clause-count
returns-then-link-clause-count c =
    let count = lan_count_ends c.args.link.now (sym c.if-not-is_shaped.ensures) c.if-link.true in
    omega (arith, count, c.len-then-link.ensures)
