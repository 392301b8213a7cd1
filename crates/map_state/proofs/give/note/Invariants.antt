use Rattle.std.proofs.Common.{◌≡◌, ◌++◌, drop}
use Rattle.map_state.specs.Nodes.{changes_of}
use Rattle.map_state.proofs.give.note.Given as goal

abbrev pub invariant-loop-number : goal.invariant-loop-number
invariant-loop-number l = record {
  changes : l.changes.items ++ changes_of l.rows (drop l.number l.listed) (drop l.number l.plugs) ≡ l.initial.changes.items ++ changes_of l.rows l.listed l.plugs;
}
