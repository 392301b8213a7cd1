use Rattle.std.proofs.Common.{◌≡◌, ◌++◌, drop, map}
use Rattle.map_state.specs.Nodes.{changes_of}
use Rattle.map_state.proofs.give.note_in_order.Given as goal

abbrev pub invariant-loop-number : goal.invariant-loop-number
invariant-loop-number l = record {
  changes : l.changes.items ++ changes_of l.rows (drop l.number l.listed) (map (λ x. x.id) (drop l.number l.ifaces))
      ≡ l.initial.changes.items ++ changes_of l.rows l.listed (map (λ x. x.id) l.ifaces);
}
