use Rattle.std.proofs.Common.{◌≡◌, fold, Some, drop}
use Rattle.lab_base.specs.declared.boot.Boot.TheVariants.{Off}
use Rattle.plain_model.specs.Rows.{boot_then}
use Rattle.plain_model.proofs.world.boot_of.Given as goal

-- the rest of the commands lead from what it has now to what it has in the end
abbrev pub invariant-loop-sent : goal.invariant-loop-sent
invariant-loop-sent l = fold (boot_then l.name) l.had (drop l.sent-index l.commands) ≡ fold (boot_then l.name) (Some Off) l.commands
