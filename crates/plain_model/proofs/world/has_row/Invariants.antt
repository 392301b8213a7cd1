use Rattle.std.proofs.Common.{◌≡◌, fold, false, drop}
use Rattle.plain_model.specs.Rows.{row_then}
use Rattle.plain_model.proofs.world.has_row.Given as goal

-- the rest of the commands lead from what stands now to what stands in the end
abbrev pub invariant-loop-sent : goal.invariant-loop-sent
invariant-loop-sent l = fold (row_then l.row) l.had (drop l.sent-index l.commands) ≡ fold (row_then l.row) false l.commands
