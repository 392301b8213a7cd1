use Rattle.std.proofs.Common.{◌≡◌, ◌<◌, None, map}
use Rattle.std.specs.Prelude.{IfSome, length}
use Rattle.plant.specs.Worlds.{world_of}
use Rattle.plant.specs.Readings.{IsBefore, IsEntry, RowsFit, entry_of}
use Rattle.plant.proofs.Fronts.{IsFront}
use Rattle.lab_audit.specs.Reads.{Reads}
use Rattle.lab_audit.proofs.readings.rows_on.Given as goal

abbrev pub invariant-loop-nth : goal.invariant-loop-nth
invariant-loop-nth g l = record {
  so_far : Reads (g.P.Plant.seen l.fn.plant) (g.P.Plant.seen l.plant) None;
  front : IfSome (g.P.Plant.seen l.fn.plant).told (λ t. IsFront IsBefore (IsEntry (world_of t.trace) l.switch) (map entry_of l.rows));
  fits : IfSome (g.P.Plant.seen l.fn.plant).told (λ t. 0 < l.nth → RowsFit (world_of t.trace) l.switch);
  count : length l.rows ≡ l.nth;
}
