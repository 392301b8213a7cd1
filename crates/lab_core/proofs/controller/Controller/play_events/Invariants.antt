use Rattle.std.proofs.Common.{◌≡◌, ◌≤◌, drop, length}
use Rattle.lab_core.specs.Controller.{CanWork}
use Rattle.lab_tasks.specs.Playing.{first_place}
use Rattle.lab_core.proofs.InTurn.{going}
use Rattle.lab_core.proofs.HowFar.{ComesTo}
use Rattle.lab_core.proofs.controller.Controller.play_events.Given as goal

abbrev pub invariant-loop-event : goal.invariant-loop-event
invariant-loop-event g l = record {
  within : l.event-index ≤ length l.due;
  counted : l.played ≡ l.event-index;
  can : CanWork (g.P.Plant.seen l.plant) l.self;
  comes : ComesTo l.exp (first_place l.text l.due) (g.P.Plant.seen l.fn.plant) (g.P.Plant.seen l.plant) l.fn.self l.self (going l.exp l.text (drop l.event-index l.due) l.played);
}
