use Rattle.std.proofs.Common.{◌≡◌, ◌++◌, map, take}
use Rattle.plant.specs.Worlds.{Row}
use Rattle.lab_audit.proofs.wants.push_rows.Given as goal

abbrev pub invariant-loop-row : goal.invariant-loop-row
invariant-loop-row l = l.wanted.items ≡ l.fn.wanted.items ++ map (λ (r : Row). record { row = r; stands = l.stands }) (take l.row-index l.rows)
