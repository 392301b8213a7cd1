use Rattle.std.proofs.Common.{◌≡◌, ◌<◌, Some, None, map}
use Rattle.std.specs.Prelude.{IfSome, length}
use Rattle.lab_base.specs.Lists.{Has}
use Rattle.plant.specs.Worlds.{world_of}
use Rattle.plant.specs.Readings.{HasPipe, PipesFit, pipe_of}
use Rattle.plant.specs.declared.pipe_row.PipeRow.{PipeRow}
use Rattle.plant.proofs.Fronts.{IsFront}
use Rattle.lab_audit.specs.Reads.{Reads}
use Rattle.lab_audit.proofs.readings.pipes_of.Given as goal

abbrev pub invariant-loop-nth : goal.invariant-loop-nth
invariant-loop-nth g l = record {
  so_far : Reads (g.P.Plant.seen l.fn.plant) (g.P.Plant.seen l.plant) None;
  front : IfSome (g.P.Plant.seen l.fn.plant).told (λ t. IsFront ◌<◌ (HasPipe ((world_of t.trace).node l.node)) (map (λ p. p.pipe) l.pipes));
  each : IfSome (g.P.Plant.seen l.fn.plant).told (λ t. (p : PipeRow) → Has l.pipes p → ((world_of t.trace).node l.node).pipes p.pipe ≡ Some (pipe_of p));
  fits : IfSome (g.P.Plant.seen l.fn.plant).told (λ t. 0 < l.nth → PipesFit ((world_of t.trace).node l.node));
  count : length l.pipes ≡ l.nth;
}
