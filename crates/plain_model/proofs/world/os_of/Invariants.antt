use Rattle.std.proofs.Common.{◌≡◌, fold, None, drop}
use Rattle.plain_model.specs.Rows.{os_then}
use Rattle.plain_model.proofs.world.os_of.Given as goal

-- the rest of the commands lead from what it has now to what it has in the end
abbrev pub invariant-loop-sent : goal.invariant-loop-sent
invariant-loop-sent l = fold (os_then l.name) l.had (drop l.sent-index l.commands) ≡ fold (os_then l.name) None l.commands
