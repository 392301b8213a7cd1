use Rattle.std.proofs.Common.{◌≡◌, drop}
use Rattle.std.specs.List.{position_from}
use Rattle.indexmap.specs.IndexMap.{get}
use Rattle.solution_text.proofs.names.numbered.Given as goal

abbrev pub invariant-loop-number : goal.invariant-loop-number
invariant-loop-number g l = (key : g.row.K.Denot) → get g.K.PartialEq.eq l.table key ≡ position_from (g.K.PartialEq.eq key) l.number (drop l.number l.keys)
