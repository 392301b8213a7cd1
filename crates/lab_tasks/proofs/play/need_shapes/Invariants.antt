use Rattle.std.proofs.Common.{◌≡◌, ◌≤◌, drop, length}
use Rattle.lab_tasks.specs.Playing.{need_shapes}
use Rattle.lab_tasks.proofs.play.need_shapes.Given as goal

abbrev pub invariant-loop-event : goal.invariant-loop-event
invariant-loop-event l = record {
  within : l.event-index ≤ length l.events;
  rest : need_shapes l.exp l.text l.events l.now ≡ need_shapes l.exp l.text (drop l.event-index l.events) l.now;
}
