use Rattle.std.proofs.Common.{◌∙◌}
use Rattle.swap_plan.proofs.changes.ops_of.Goals as goal

pub ops_by-requires-clause-left : goal.ops_by-requires-clause-left
ops_by-requires-clause-left c = c.deref.ensures.value ∙ c.in_ok-left.ensures

pub ops_by-requires-clause-rows : goal.ops_by-requires-clause-rows
ops_by-requires-clause-rows c = c.deref-2.ensures.value ∙ c.in_ok-rows.ensures
