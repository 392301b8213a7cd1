use Rattle.std.proofs.Common.{◌≡◌, ◌≤◌, List, drop, false, length}
use Rattle.script_text.specs.Replies.{served_of}
use Rattle.script_text.specs.declared.reply.Reply.{Reply}
use Rattle.lab_core.specs.Controller.{CanWork}
use Rattle.lab_core.specs.Queues.{first_place}
use Rattle.lab_core.proofs.RunsInTurn.{place_at}
use Rattle.lab_core.proofs.HowFar.{ComesToRun}
use Rattle.lab_core.proofs.controller.Controller.serve_runs.Given as goal

abbrev pub invariant-loop-run : goal.invariant-loop-run
invariant-loop-run g l = record {
  within : l.run-index ≤ length l.runs;
  moment : l.queue.moment ≡ l.moment;
  promises : l.queue.promises ≡ l.fn.promises;
  open' : l.told.closes ≡ false;
  can : CanWork (g.P.Plant.seen l.plant) l.self;
  comes : (replies : List Reply) × (l.told ≡ served_of replies)
      × ComesToRun l.rule.number l.queue.moment (first_place l.fn.promises l.runs) (g.P.Plant.seen l.fn.plant) (g.P.Plant.seen l.plant) l.fn.self l.self (place_at l.queue (drop l.run-index l.runs) replies);
}
